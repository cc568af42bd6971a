use Rattle.std.proofs.Common.{◌≤◌, length}
use Rattle.lw_plain.specs.Rounds.{IsRefinedTimes}
use Rattle.lw_plain_run.specs.Run.{task_of}
use Rattle.lw_plain.specs.Over.{IsOver}
use Rattle.lw_plain_run.proofs.learning.rounds.Given as goal

abbrev pub invariant-loop-refinements : goal.invariant-loop-refinements
invariant-loop-refinements l = record {
  over : IsOver l.m.inputs l.table;
  few : length l.table.access ≤ l.most;
  after : IsRefinedTimes (task_of l.m l.extra l.most) l.refinements l.initial.table l.table;
}
