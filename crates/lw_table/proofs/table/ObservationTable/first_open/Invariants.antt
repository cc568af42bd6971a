use Rattle.lw_table.specs.bodies.Growing.{HaveStates}
use Rattle.lw_table.proofs.table.ObservationTable.first_open.Given as goal

abbrev pub invariant-loop-row : goal.invariant-loop-row
invariant-loop-row l = HaveStates l.self l.from l.row
