use Rattle.std.proofs.Common.{◌≡◌, ◌++◌, take}
use Rattle.lw_adapters.specs.Recorded.{bytes_of}
use Rattle.lw_adapters.proofs.record.record.Given as goal

abbrev pub invariant-loop-byte : goal.invariant-loop-byte
invariant-loop-byte l = bytes_of l.bytes.items ≡ bytes_of l.initial.bytes.items ++ take l.byte-index l.more
