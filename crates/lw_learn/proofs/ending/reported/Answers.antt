use Rattle.std.proofs.Common.{subst}
use Rattle.lw_mealy.specs.Machine.{MealyMachine}
use Rattle.lw_learn.proofs.RunLemmas.{machine_for}
use Rattle.lw_learn.specs.Outcomes.{IsUntold}
use Rattle.lw_learn.proofs.ending.reported.Goals as goal

pub model_report-requires : goal.model_report-requires
model_report-requires c = record { fits = machine_for c.args.goal c.args.system.now c.in-Ok.machine c.args.names.now.names c.requires.fits c.in-Ok.ensures.inputs c.in-Ok.ensures.outputs c.requires.declared }

pub returns-in-Err-model_report-clause-untold : goal.returns-in-Err-model_report-clause-untold
returns-in-Err-model_report-clause-untold c =
    subst (λ (m : MealyMachine). IsUntold c.args.goal m.rows c.in-Err-model_report.outcome) c.in-Ok.ensures.mealy c.in-Err-model_report.ensures.err
