use Rattle.std.proofs.Common.{ℕ, List, [], ◌∷◌, Option, Ok, Err, subst}
use Rattle.lw_report.specs.declared.role.Role.TheVariants.{Answers, Model}
use Rattle.lw_learn.specs.bodies.Probing.{HasProbed}
use Rattle.lw_learn.proofs.ProbeLemmas.{not_probed, then_probed}
use Rattle.lw_learn.proofs.probing.probe_told.Goals as goal

pub returns-in-Ok : goal.returns-in-Ok
returns-in-Ok g c =
    let F = g.F.Files in
    let a = c.args.arguments.now in
    let b = F.state c.args.files.now in
    let m = F.state c.probe_named.new.files in
    let n = F.state c.probe_named-in-Ok.new.files in
    let r = c.probe_named-in-Ok.result in
    then_probed (Model, a.model) ((Answers, a.answers) ∷ []) b m n r
    (subst (λ (x : Option (List ℕ)). HasProbed ((Model, x) ∷ []) b m (Ok tt)) c.model.ensures c.in-Ok.ensures)
    (subst (λ (x : Option (List ℕ)). HasProbed ((Answers, x) ∷ []) m n r) c.answers.ensures c.probe_named-in-Ok.ensures)

pub returns-in-Err : goal.returns-in-Err
returns-in-Err g c =
    let F = g.F.Files in
    let a = c.args.arguments.now in
    let b = F.state c.args.files.now in
    let m = F.state c.probe_named.new.files in
    not_probed (Model, a.model) ((Answers, a.answers) ∷ []) b m c.in-Err.outcome (subst (λ (x : Option (List ℕ)). HasProbed ((Model, x) ∷ []) b m (Err c.in-Err.outcome)) c.model.ensures c.in-Err.ensures)
