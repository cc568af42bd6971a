use Rattle.std.proofs.Common.{None}
use Rattle.lw_cache.specs.Settling.{Leaves}
use Rattle.lw_rounds.specs.bodies.Rounds.{IsReady, IsAlike, left_of}
use Rattle.lw_rounds.specs.bodies.Plain.{GoesAsPlain}
use Rattle.lw_rounds.proofs.rounds.rounds.Given as goal

abbrev pub invariant-loop-model : goal.invariant-loop-model
invariant-loop-model g l = record {
  ready : IsReady (g.O.Oracle.state l.oracle) l.learner;
  alike : IsAlike l.initial.learner l.learner;
  plainly : GoesAsPlain l.initial.learner l.learner l.settings.testing l.settings.extra (g.O.Oracle.state l.initial.oracle) (g.O.Oracle.state l.oracle);
  leaves : Leaves (g.O.Oracle.state l.initial.oracle) (g.O.Oracle.state l.oracle) None;
  can : g.O.Oracle.can_settle l.oracle;
}

abbrev pub decreases-loop-model : goal.decreases-loop-model
decreases-loop-model g l = left_of l.learner
