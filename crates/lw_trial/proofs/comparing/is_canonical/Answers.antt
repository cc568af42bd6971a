use Rattle.lw_trial.proofs.CompareLemmas.{is_form}
use Rattle.lw_trial.proofs.comparing.is_canonical.Goals as goal

pub returns : goal.returns
returns c =
    is_form c.args.machine.now.inputs c.args.machine.now.rows c.in_ok-form.form.rows c.args.model.now.rows c.same_rows.result c.in_ok-form.ensures.canonical c.same_rows.ensures.yes c.same_rows.ensures.no
