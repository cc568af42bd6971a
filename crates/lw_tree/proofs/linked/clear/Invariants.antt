use Rattle.std.proofs.Common.{◌≡◌, vec_capacity}
use Rattle.lw_tree.proofs.RelinkLemmas.{AreClearedTo}
use Rattle.lw_tree.proofs.linked.clear.Given as goal

abbrev pub invariant-loop-number : goal.invariant-loop-number
invariant-loop-number l = record {
  items : AreClearedTo l.initial.nodes.items l.below l.number l.nodes.items;
  capacity : vec_capacity l.nodes ≡ vec_capacity l.initial.nodes;
}
