use Rattle.std.proofs.Common.{◌<◌, ℕ, length}
use Rattle.lw_mealy.specs.Machine.{Differ}
use Rattle.lw_separate.proofs.alike_states.first_alike.Given as goal

abbrev pub invariant-loop-p : goal.invariant-loop-p
invariant-loop-p l = (r s : ℕ) → r < l.p → r < s → s < length l.m.rows → Differ l.m.inputs l.m.rows r s
