use Rattle.std.proofs.Common.{◌≡◌, length}
use Rattle.lw_tree.specs.Tree.{node_at}
use Rattle.lw_tree.specs.bodies.Sprouts.{AreMarks}
use Rattle.lw_tree.proofs.tree.DiscriminationTree.below.Given as goal

abbrev pub invariant-loop-number : goal.invariant-loop-number
invariant-loop-number l = record {
  marks : AreMarks (node_at l.self.nodes) l.root l.below.items;
  size : length l.below.items ≡ l.number;
}
