use Rattle.std.proofs.Common.{◌≤◌, ◌-◌, ◌*◌, length}
use Rattle.lw_compare.specs.bodies.Walk.{Walked}
use Rattle.lw_compare.proofs.walk.least_difference.Given as goal

abbrev pub invariant-loop-i : goal.invariant-loop-i
invariant-loop-i l = record {
  walked : Walked l.first l.second l.walk l.i 0;
  within : l.i ≤ length l.walk.nodes.items;
}

abbrev pub decreases-loop-i : goal.decreases-loop-i
decreases-loop-i l = length l.first.mealy.rows * length l.second.mealy.rows - l.i
