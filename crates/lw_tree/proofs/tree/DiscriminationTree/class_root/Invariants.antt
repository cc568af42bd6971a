use Rattle.lw_tree.specs.Tree.{node_at, leaf_at}
use Rattle.lw_tree.proofs.ClassLemmas.{IsClimbing}
use Rattle.lw_tree.proofs.tree.DiscriminationTree.class_root.Given as goal

abbrev pub invariant-loop-root : goal.invariant-loop-root
invariant-loop-root l = IsClimbing (node_at l.self-inside.nodes.items) l.root (leaf_at l.self-inside.leaves.items l.state)

abbrev pub decreases-loop-root : goal.decreases-loop-root
decreases-loop-root l = l.root
