use Rattle.std.proofs.Common.{ℕ, List, length, subst}
use Rattle.lw_json.specs.KeptOver.{AreKeptOver}
use Rattle.lw_recheck.proofs.command.recheck_task.Goals as goal

pub recheck_system-told-requires-clause-over : goal.recheck_system-told-requires-clause-over
recheck_system-told-requires-clause-over g c κs within =
    let answers = c.args.task.answers in
    subst (λ (ls : List (List ℕ)). AreKeptOver (length ls) (length answers.outputs) answers.kept.answers) c.requires.fits.inputs answers.over

pub returns-clause-asks : goal.returns-clause-asks
returns-clause-asks g c =
    let told = c.recheck_system-told.result in
    record {
      shown = told.names;
      kept = told.kept.answers;
      why = told.outcome;
      asks = c.recheck_system-told.ensures.asks;
      ended = c.end_call.ensures.ended;
    }

pub returns-clause-why : goal.returns-clause-why
returns-clause-why g c cause came = c.recheck_system-told.ensures.why cause (c.end_call.ensures.unstarted cause came)
