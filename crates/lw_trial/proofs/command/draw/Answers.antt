use Rattle.std.proofs.Common.{sym, subst}
use Rattle.lw_mealy.specs.Machine.{IsWithinLimits}
use Rattle.lw_trial.proofs.DrawnLemmas.{drawn_within}
use Rattle.lw_trial.proofs.command.draw.Goals as goal

pub returns-clause-complete : goal.returns-clause-complete
returns-clause-complete c = subst IsWithinLimits (sym c.in_ok-machine.ensures) (drawn_within c.states.result c.inputs.result c.seed.result c.states.ensures.limits c.inputs.ensures.limits)
