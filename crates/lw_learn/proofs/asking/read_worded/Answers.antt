use Rattle.std.proofs.Common.{List, ℕ, Ok, subst}
use Rattle.lw_learn.specs.bodies.Stages.{HasWorded}
use Rattle.lw_learn.proofs.WordLemmas.{with_words}
use Rattle.lw_learn.proofs.asking.read_worded.Goals as goal

pub returns-in-Ok : goal.returns-in-Ok
returns-in-Ok g c =
    let F = g.F.Files in
    let a = c.args.arguments.now in
    let f = F.state c.args.files.now in
    let m = F.state c.read_task.new.files in
    let h = F.state c.words_to_ask.new.files in
    let words = c.in-Ok.words in
    with_words a f m h c.in_ok-task.task c.in_ok-task.ensures words (subst (λ (letters : List (List ℕ)). HasWorded a letters m h (Ok words)) c.inputs.ensures c.in-Ok.ensures)
