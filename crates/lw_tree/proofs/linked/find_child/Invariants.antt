use Rattle.std.proofs.Common.{length}
use Rattle.lw_tree.proofs.LinkLemmas.{IsPassing, left_of}
use Rattle.lw_tree.proofs.linked.find_child.Given as goal

abbrev pub invariant-loop-cursor : goal.invariant-loop-cursor
invariant-loop-cursor l = IsPassing l.nodes l.children l.parent l.outputs l.cursor

abbrev pub decreases-loop-cursor : goal.decreases-loop-cursor
decreases-loop-cursor l = length (left_of l.children l.cursor)
