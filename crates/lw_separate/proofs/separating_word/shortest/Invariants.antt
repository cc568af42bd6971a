use Rattle.std.proofs.Common.{◌<◌, ℕ}
use Rattle.lw_separate.specs.bodies.Levels.{AgreeUpTo}
use Rattle.lw_separate.proofs.separating_word.shortest.Given as goal

abbrev pub invariant-loop-letters : goal.invariant-loop-letters
invariant-loop-letters l = (j : ℕ) → j < l.letters → AgreeUpTo l.m.inputs l.m.rows j l.p l.q
