use Rattle.std.proofs.Common.{◌≤◌, ◌-◌, length}
use Rattle.lw_separate.specs.bodies.Searched.{Searched}
use Rattle.lw_separate.proofs.access.breadth_first.Given as goal

abbrev pub invariant-loop-i : goal.invariant-loop-i
invariant-loop-i l = record {
  so_far : Searched l.m l.s l.i 0;
  within : l.i ≤ length l.s.words.items;
}

abbrev pub decreases-loop-i : goal.decreases-loop-i
decreases-loop-i l = length l.m.rows - l.i
