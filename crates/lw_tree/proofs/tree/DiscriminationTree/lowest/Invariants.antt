use Rattle.lw_tree.specs.Tree.{node_at, leaf_at}
use Rattle.lw_tree.proofs.LowestLemmas.{IsLowestTo}
use Rattle.lw_tree.proofs.tree.DiscriminationTree.lowest.Given as goal

abbrev pub invariant-loop-other : goal.invariant-loop-other
invariant-loop-other l = IsLowestTo (node_at l.self.nodes) (leaf_at l.self.leaves) (leaf_at l.leaves) l.state l.other l.number l.lowest
