use Rattle.lw_tree.specs.bodies.Sprouts.{AreEdgePlaces}
use Rattle.lw_tree.proofs.replacing.place_edges.Given as goal

abbrev pub invariant-loop-state : goal.invariant-loop-state
invariant-loop-state l = AreEdgePlaces l.inputs l.spanning l.leaves l.state l.initial.places.items l.places.items
