use Rattle.std.proofs.Common.{sym, subst}
use Rattle.lw_report.specs.Text.{text_of}
use Rattle.lw_report.specs.Writing.{TakesAll}
use Rattle.lw_report.specs.declared.outcome.Outcome.{Outcome}
use Rattle.lw_outside.proofs.SinkLemmas.{sink_none}
use Rattle.lw_learn.proofs.writing.tell_model.Goals as goal

pub returns-in-Ok-clause-said : goal.returns-in-Ok-clause-said
returns-in-Ok-clause-said g c none =
    let m = c.args.model.now.machine in
    subst (λ (o : Outcome). TakesAll (text_of m.inputs m.outputs c.args.model.now.kept.answers c.args.arguments.now.extra o) (g.E.Sink.state c.args.err.now).taken (g.E.Sink.state c.write_model.new.err).taken) (sym c.in-Ok.ensures.ok) c.in-Ok.ensures.line

pub returns-in-Ok-clause-part : goal.returns-in-Ok-clause-part
returns-in-Ok-clause-part g c =
    let m = c.args.model.now.machine in
    let text = text_of m.inputs m.outputs c.args.model.now.kept.answers c.args.arguments.now.extra c.in-Ok.outcome in
    let now = (g.E.Sink.state c.write_model.new.err).taken in
    record { between = now; some = c.write_model.ensures.line_part; then = (0, sink_none now text) }
