use Rattle.std.proofs.Common.{map}
use Rattle.lw_tree.specs.bodies.Transitions.{AreStates}
use Rattle.lw_tree.proofs.tree.DiscriminationTree.machine.Given as goal

abbrev pub invariant-loop-state : goal.invariant-loop-state
invariant-loop-state l = AreStates l.self l.state (map (λ r. r.items) l.rows.items)
