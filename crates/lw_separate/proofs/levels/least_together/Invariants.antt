use Rattle.std.proofs.Common.{◌<◌, ◌≤◌, ℕ, get_or}
use Rattle.lw_separate.specs.bodies.Levels.{GoApart}
use Rattle.lw_separate.proofs.levels.least_together.Given as goal

abbrev pub invariant-loop-p : goal.invariant-loop-p
invariant-loop-p l = (r : ℕ) → get_or l.classes l.q 0 ≤ r → r < l.p → GoApart l.m.inputs l.m.rows l.classes r l.q
