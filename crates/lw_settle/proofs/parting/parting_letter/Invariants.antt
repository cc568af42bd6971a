use Rattle.std.proofs.Common.{ℕ, ◌<◌}
use Rattle.lw_mealy.specs.Machine.{Rows}
use Rattle.lw_tree.specs.Tree.{IsMachineOf}
use Rattle.lw_settle.specs.bodies.Parting.{AreAlike}
use Rattle.lw_settle.proofs.parting.parting_letter.Given as goal

abbrev pub invariant-loop-letter : goal.invariant-loop-letter
invariant-loop-letter l = (m : Rows) → IsMachineOf l.tree m → (x : ℕ) → x < l.letter → AreAlike l.roots m l.one l.other x
