use Rattle.std.proofs.Common.{◌≡◌, length}
use Rattle.std.specs.Io.KnownBytes.{Keeps}
use Rattle.lw_adapters.proofs.streams.read_some.Given as goal

abbrev pub invariant-loop : goal.invariant-loop
invariant-loop g l = Keeps (g.S.Read.remaining l.initial.stream) (g.S.Read.remaining l.stream) × (length l.buffer ≡ length l.initial.buffer)
