use Rattle.lw_tree.specs.bodies.Arrivals.{Added}
use Rattle.lw_tree.proofs.arrivals.Arrivals.add.Given as goal

abbrev pub invariant-loop-number : goal.invariant-loop-number
invariant-loop-number l = Added l.initial.self-inside.lists l.self-inside.lists l.first l.number
