use Rattle.std.proofs.Common.{◌≡◌, ◌++◌, drop}
use Rattle.lw_tree.specs.Tree.{discriminators}
use Rattle.lw_tree.proofs.tree.DiscriminationTree.discriminators.Given as goal

abbrev pub invariant-loop-node : goal.invariant-loop-node
invariant-loop-node l = discriminators l.node-items ≡ l.words ++ discriminators (drop l.node-index l.node-items)
