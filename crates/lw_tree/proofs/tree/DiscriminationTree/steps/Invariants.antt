use Rattle.lw_tree.specs.bodies.Transitions.{AreStepsTo}
use Rattle.lw_tree.proofs.tree.DiscriminationTree.steps.Given as goal

abbrev pub invariant-loop-letter : goal.invariant-loop-letter
invariant-loop-letter l = AreStepsTo l.self l.state l.letter l.row.items
