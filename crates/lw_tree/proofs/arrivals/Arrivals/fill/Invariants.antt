use Rattle.lw_tree.specs.Tree.{node_at}
use Rattle.lw_tree.specs.bodies.Arrivals.{HasFilled}
use Rattle.lw_tree.proofs.arrivals.Arrivals.fill.Given as goal

abbrev pub invariant-loop-number : goal.invariant-loop-number
invariant-loop-number l = HasFilled l.initial.self-inside.lists l.self-inside.lists (node_at l.nodes.items) l.places l.number
