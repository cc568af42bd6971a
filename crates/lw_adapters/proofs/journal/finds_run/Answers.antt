use Rattle.std.proofs.Common.{◌≡◌, ℕ, take, subst, arith}
use Rattle.std.specs.Io.KnownBytes.{Consumes}
use Rattle.lw_adapters.proofs.JournalLemmas.{left_none}
use Rattle.lw_adapters.proofs.journal.finds_run.Goals as goal

pub returns-then-count-eq0 : goal.returns-then-count-eq0
returns-then-count-eq0 g c =
    let R = g.F.Read in
    let none : c.in_ok-count.count ≡ 0 = c.if-count-eq0.true in
    left_none (R.remaining c.args.file.now) (R.remaining c.loop.file) (R.remaining c.read_some.new.stream) c.loop.place c.loop.invariant.0
    (subst (λ (n : ℕ). Consumes (R.remaining c.loop.file) (R.remaining c.read_some.new.stream) (take n c.read_some.new.buffer)) none c.in_ok-count.ensures.bytes.0)
    (c.in_ok-count.ensures.bytes.1 none (omega (arith, c.loop.invariant.1, c.in_ok-count.ensures.long)))
