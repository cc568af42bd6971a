use Rattle.lw_wp.specs.bodies.HTables.{AddsStates, LeadsTo}
use Rattle.lw_wp.proofs.h_table.add_targets.Given as goal

abbrev pub invariant-loop-x : goal.invariant-loop-x
invariant-loop-x l = AddsStates l.m.rows l.fn.reached.items l.reached.items (LeadsTo l.m.rows l.q l.x)
