use Rattle.std.proofs.Common.{◌+◌}
use Rattle.lw_tree.specs.Tree.{node_at}
use Rattle.lw_tree.proofs.ClassLemmas.{IsForking}
use Rattle.lw_tree.proofs.tree.DiscriminationTree.fork.Given as goal

abbrev pub invariant-loop-here : goal.invariant-loop-here
invariant-loop-here l = IsForking (node_at l.self-inside.nodes.items) l.fn.one l.fn.other l.here l.there

abbrev pub decreases-loop-here : goal.decreases-loop-here
decreases-loop-here l = l.here + l.there
