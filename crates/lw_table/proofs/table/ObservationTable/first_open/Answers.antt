use Rattle.lw_table.specs.bodies.Growing.{HasState}
use Rattle.lw_table.proofs.RowLemmas.{rows_more}
use Rattle.lw_table.proofs.table.ObservationTable.first_open.Goals as goal

pub loop-row-preserved : goal.loop-row-preserved
loop-row-preserved c = rows_more (HasState c.args.self.now) c.args.from c.loop-row.row c.loop-row.invariant (c.in-Some.field-0, c.in-Some.ensures.0, c.in-Some.ensures.1)
