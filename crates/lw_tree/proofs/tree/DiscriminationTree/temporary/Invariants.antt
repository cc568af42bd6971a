use Rattle.std.proofs.Common.{◌≡◌, ◌+◌, drop}
use Rattle.lw_tree.specs.Tree.{temporaries}
use Rattle.lw_tree.proofs.tree.DiscriminationTree.temporary.Given as goal

abbrev pub invariant-loop-node : goal.invariant-loop-node
invariant-loop-node l = temporaries l.node-items ≡ l.count + temporaries (drop l.node-index l.node-items)
