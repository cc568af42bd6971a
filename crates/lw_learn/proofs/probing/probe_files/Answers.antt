use Rattle.std.proofs.Common.{ℕ, List, [], ◌∷◌, Option, Ok, Err, subst}
use Rattle.lw_report.specs.declared.role.Role.TheVariants.{Answers, Kept, Last, Model}
use Rattle.lw_learn.specs.bodies.Probing.{HasProbed}
use Rattle.lw_learn.proofs.ProbeLemmas.{not_probed, then_probed}
use Rattle.lw_learn.proofs.probing.probe_files.Goals as goal

pub returns-in-Ok : goal.returns-in-Ok
returns-in-Ok g c =
    let F = g.F.Files in
    let a = c.args.arguments.now in
    let b = F.state c.args.files.now in
    let m = F.state c.probe_named.new.files in
    then_probed (Last, a.last) ((Kept, a.kept) ∷ (Model, a.model) ∷ (Answers, a.answers) ∷ []) b m (F.state c.probe_saved.new.files) c.probe_saved.result
    (subst (λ (x : Option (List ℕ)). HasProbed ((Last, x) ∷ []) b m (Ok tt)) c.last.ensures c.in-Ok.ensures)
    c.probe_saved.ensures

pub returns-in-Err : goal.returns-in-Err
returns-in-Err g c =
    let F = g.F.Files in
    let a = c.args.arguments.now in
    let b = F.state c.args.files.now in
    let m = F.state c.probe_named.new.files in
    not_probed (Last, a.last) ((Kept, a.kept) ∷ (Model, a.model) ∷ (Answers, a.answers) ∷ []) b m c.in-Err.outcome (subst (λ (x : Option (List ℕ)). HasProbed ((Last, x) ∷ []) b m (Err c.in-Err.outcome)) c.last.ensures c.in-Err.ensures)
