use Rattle.std.proofs.Common.{◌≡◌, ◌∙◌, List, [], None, ap, subst}
use Rattle.lw_words.specs.declared.kept.KeptAnswer.{KeptAnswer}
use Rattle.lw_report.specs.Writing.{TakesAll, TakesSome, said_text}
use Rattle.lw_compare.proofs.RunLemmas.{read_run, unread_run}
use Rattle.lw_compare.proofs.command.compare.Goals as goal

pub returns-in-Ok-clause-ran : goal.returns-in-Ok-clause-ran
returns-in-Ok-clause-ran g c =
    let F = g.F.Files in
    let O = g.O.Sink in
    let E = g.E.Sink in
    let f = F.state c.args.files.now in
    let now = F.state c.read_models.new.files in
    let o = O.state c.args.out.now in
    let e = E.state c.args.err.now in
    let p = O.state c.finish.new.out in
    let d = E.state c.finish.new.err in
    let told = c.finish.ensures in
    read_run c.args.first.now c.args.second.now f now o p e d c.finish.result
    (record {
      first = c.in-Ok.models.first;
      second = c.in-Ok.models.second;
      read = c.in-Ok.ensures.ok;
      comes = told.comes;
      quiet = told.quiet;
      written = told.written;
      unwritten = told.unwritten;
      said = told.said;
      said_part = told.said_part;
    })
    c.read_models.ensures.same
    (record { model = told.model; learner = told.learner; kept = told.kept; outputs = told.outputs })

pub returns-in-Err-clause-ran : goal.returns-in-Err-clause-ran
returns-in-Err-clause-ran g c =
    let F = g.F.Files in
    let O = g.O.Sink in
    let E = g.E.Sink in
    let f = F.state c.args.files.now in
    let now = F.state c.read_models.new.files in
    let o = O.state c.args.out.now in
    let e = E.state c.args.err.now in
    let d = E.state c.refuse.new.err in
    let told = c.refuse.ensures in
    let said = subst (λ (kept : List KeptAnswer). TakesAll (said_text None None kept 0 c.refuse.result.outcome) (E.state c.args.err.now).taken (E.state c.refuse.new.err).taken) c.new.ensures in
    let part = subst (λ (kept : List KeptAnswer). TakesSome (said_text None None kept 0 c.refuse.result.outcome) (E.state c.args.err.now).taken (E.state c.refuse.new.err).taken) c.new.ensures in
    unread_run c.args.first.now c.args.second.now f now o e d c.refuse.result c.in-Err.outcome c.in-Err.ensures.err told.outcome c.read_models.ensures.same
    (record { model = told.model; learner = told.learner; kept = ap (λ k. k.answers) told.kept ∙ c.new.ensures; outputs = told.named })
    (λ quiet. said (told.said quiet)) (part told.part)
