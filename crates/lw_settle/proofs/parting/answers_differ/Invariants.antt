use Rattle.std.proofs.Common.{◌≡◌}
use Rattle.std.specs.List.{AllWithin}
use Rattle.lw_mealy.specs.Machine.{Rows, output}
use Rattle.lw_tree.specs.Tree.{IsMachineOf}
use Rattle.lw_settle.proofs.parting.answers_differ.Given as goal

abbrev pub invariant-loop-member : goal.invariant-loop-member
invariant-loop-member l = (m : Rows) → IsMachineOf l.tree m → AllWithin (λ q. output m l.one l.letter ≡ output m q l.letter) l.members 0 l.member-index
