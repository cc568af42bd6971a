use Rattle.lw_tree.proofs.RelinkLemmas.{AreLinkedTo}
use Rattle.lw_tree.proofs.linked.relink.Given as goal

abbrev pub invariant-loop-number : goal.invariant-loop-number
invariant-loop-number l = AreLinkedTo l.nodes l.number l.children
