use Rattle.std.proofs.Common.{◌<◌, ℕ}
use Rattle.lw_separate.specs.bodies.Levels.{MeetsAt}
use Rattle.lw_separate.proofs.levels.first_letter.Given as goal

abbrev pub invariant-loop-x : goal.invariant-loop-x
invariant-loop-x l = (y : ℕ) → y < l.x → MeetsAt l.m.rows l.classes l.p l.q y
