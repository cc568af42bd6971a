use Rattle.std.proofs.Common.{Err, ap}
use Rattle.lw_report.specs.declared.stops.TellStop.{TellStop}
use Rattle.lw_top.specs.HelpCommand.{topic_text}
use Rattle.lw_top.proofs.HelpLemmas.{helped, unhelped}
use Rattle.lw_top.proofs.help.help.Goals as goal

pub returns-in-Ok-clause-ran : goal.returns-in-Ok-clause-ran
returns-in-Ok-clause-ran g c =
    let O = g.O.Sink in
    let E = g.E.Sink in
    let end = c.helped.ensures in
    helped (topic_text c.args.topic) (O.state c.args.out.now) (O.state c.put_topic.new.out) (E.state c.args.err.now) (E.state c.args.err.now) c.helped.result end.outcome end.model end.learner end.kept end.outputs c.in-Ok.ensures.ok c.in-Ok.ensures.quiet

pub returns-in-Err-clause-ran : goal.returns-in-Err-clause-ran
returns-in-Err-clause-ran g c =
    let O = g.O.Sink in
    let E = g.E.Sink in
    let put = c.in-Err.ensures in
    unhelped (topic_text c.args.topic) (O.state c.args.out.now) (O.state c.put_topic.new.out) (E.state c.args.err.now) (E.state c.refuse_help.new.err) c.refuse_help.result c.in-Err.stop c.refuse_help.ensures.outcome c.refuse_help.ensures.ended
    (λ role is. put.no_file role (ap (λ (s : TellStop). Err s) is)) (λ is. put.memory (ap (λ (s : TellStop). Err s) is)) (λ is. put.failed (ap (λ (s : TellStop). Err s) is)) put.part
