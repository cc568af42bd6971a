use Rattle.std.proofs.Common.{◌∙◌, sym, subst}
use Rattle.lw_report.specs.Text.{text_of}
use Rattle.lw_report.specs.declared.outcome.Outcome.{Outcome}
use Rattle.lw_learn.specs.Writing.{TakesInTurn}
use Rattle.lw_learn.proofs.ending.write_out.Goals as goal

pub returns-clause-role : goal.returns-clause-role
returns-clause-role g c role is = c.tell_model-outcome.ensures.role role (sym c.with_model.ensures.outcome ∙ is)

pub returns-clause-part : goal.returns-clause-part
returns-clause-part g c =
    let m = c.args.model.machine in
    let kept = c.args.model.kept.answers in
    let extra = c.args.arguments.now.extra in
    let told = c.args.report.outcome in
    subst (λ (o : Outcome). TakesInTurn (text_of m.inputs m.outputs kept extra told) (text_of m.inputs m.outputs kept extra o) (g.E.Sink.state c.args.err.now).taken (g.E.Sink.state c.tell_model-outcome.new.err).taken) (sym c.with_model.ensures.outcome) c.tell_model-outcome.ensures.part
