use Rattle.std.proofs.Common.{map, take, nat_eq}
use Rattle.std.specs.HashMap.{get}
use Rattle.lw_table.specs.bodies.Numbered.{AreNumbered}
use Rattle.lw_table.specs.bodies.Rows.{class_at}
use Rattle.lw_table.proofs.steps.states_of.Given as goal

abbrev pub invariant-loop-state : goal.invariant-loop-state
invariant-loop-state l = AreNumbered nat_eq (map (class_at l.rows) (take l.state l.homes)) (get nat_eq l.states)
