use Rattle.lw_table.specs.bodies.Transitions.{AreTransitionsTo}
use Rattle.lw_table.proofs.table.ObservationTable.transitions.Given as goal

abbrev pub invariant-loop-letter : goal.invariant-loop-letter
invariant-loop-letter l = AreTransitionsTo l.self l.state l.letter l.row.items
