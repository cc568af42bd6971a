use Rattle.std.proofs.Common.{[], take}
use Rattle.lw_wp.specs.bodies.HTables.{AddsStates, IsTarget}
use Rattle.lw_wp.proofs.h_table.targets.Given as goal

abbrev pub invariant-loop-q : goal.invariant-loop-q
invariant-loop-q l = AddsStates l.m.rows [] l.reached.items (IsTarget l.m.inputs l.m.rows (take l.q-index l.states))
