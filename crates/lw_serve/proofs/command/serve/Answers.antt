use Rattle.std.proofs.Common.{◌∙◌, Err, ap}
use Rattle.lw_json.specs.declared.fault.JsonFault.{JsonFault}
use Rattle.lw_system.specs.declared.stops.ReadStop.{ReadStop}
use Rattle.lw_serve.proofs.RunLemmas.{played_run, unread_run}
use Rattle.lw_serve.proofs.command.serve.Goals as goal

pub returns-in-Ok-clause-ran : goal.returns-in-Ok-clause-ran
returns-in-Ok-clause-ran g c =
    let F = g.F.Files in
    let I = g.I.Source in
    let O = g.O.Sink in
    let E = g.E.Sink in
    let f = F.state c.args.files.now in
    let read = c.read_machine_file.new.files in
    let i = I.state c.args.input.now in
    let j = I.state c.play.new.input in
    let o = O.state c.args.out.now in
    let p = O.state c.play.new.out in
    let e = E.state c.args.err.now in
    let d = E.state c.play.new.err in
    let was = c.in-Ok.ensures in
    let now = c.play.ensures in
    played_run c.args.model.now f (F.state read) i j o p e d c.play.result c.in-Ok.machine
    (record { file = was.ok; calls = was.ok_call; quiet = was.quiet; holds = was.same })
    now.served
    (record { model = now.model; learner = now.learner; kept = now.kept; outputs = now.outputs; said = now.said; part = now.part })

pub returns-in-Err-clause-ran : goal.returns-in-Err-clause-ran
returns-in-Err-clause-ran g c =
    let F = g.F.Files in
    let I = g.I.Source in
    let O = g.O.Sink in
    let E = g.E.Sink in
    let f = F.state c.args.files.now in
    let read = c.read_machine_file.new.files in
    let i = I.state c.args.input.now in
    let o = O.state c.args.out.now in
    let e = E.state c.args.err.now in
    let d = E.state c.refuse_model.new.err in
    let was = c.read_machine_file.ensures in
    let is = c.in-Err.is in
    let now = c.refuse_model.ensures in
    unread_run c.args.model.now f (F.state read) i o e d c.refuse_model.result c.in-Err.stop
    (record {
      bad = λ fault kind. let same = is ∙ ap (λ (s : ReadStop JsonFault). Err s) kind in (was.bad fault same, was.bad_call fault same);
      long = λ kind. let same = is ∙ ap (λ (s : ReadStop JsonFault). Err s) kind in (was.long same, was.long_call same, was.long_unread same);
      failed = λ kind. let same = is ∙ ap (λ (s : ReadStop JsonFault). Err s) kind in (was.failed same, was.failed_call same, was.failed_unread same);
      memory = λ kind. was.memory (is ∙ ap (λ (s : ReadStop JsonFault). Err s) kind);
    })
    was.same was.reads now.outcome
    (record { model = now.model; learner = now.learner; kept = now.kept; outputs = now.outputs; said = now.said; part = now.part })
