use Rattle.std.proofs.Common.{◌<◌, ℕ}
use Rattle.lw_mealy.specs.Machine.{Differ}
use Rattle.lw_separate.proofs.alike_states.alike_after.Given as goal

abbrev pub invariant-loop-q : goal.invariant-loop-q
invariant-loop-q l = (r : ℕ) → l.p < r → r < l.q → Differ l.m.inputs l.m.rows l.p r
