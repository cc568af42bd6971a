use Rattle.std.proofs.Common.{◌≡◌, map, take}
use Rattle.lw_tree.specs.bodies.Sprouts.{lifted}
use Rattle.lw_tree.proofs.tree.DiscriminationTree.lifted_leaves.Given as goal

abbrev pub invariant-loop-leaf : goal.invariant-loop-leaf
invariant-loop-leaf l = l.leaves.items ≡ map (lifted l.below l.root) (take l.leaf-index l.leaf-items)
