use Rattle.lw_learn.proofs.WordLemmas.{both_worded, none_worded}
use Rattle.lw_learn.proofs.asking.words_to_ask.Goals as goal

pub returns-in-Ok : goal.returns-in-Ok
returns-in-Ok g c =
    let F = g.F.Files in
    let before = c.args.files.now in
    let now = c.named_words.new.files in
    let f = F.state before in
    let h = F.state now in
    let all = c.in-Ok.ensures in
    both_worded c.args.arguments.now c.args.inputs.now f h c.named_words.result c.in_ok-named.named c.in-Ok.words c.in_ok-named.was c.named_words.ensures all.some all.drawn all.few

pub returns-in-Err : goal.returns-in-Err
returns-in-Err g c =
    let F = g.F.Files in
    let before = c.args.files.now in
    let now = c.named_words.new.files in
    let f = F.state before in
    let h = F.state now in
    none_worded c.args.arguments.now c.args.inputs.now f h c.named_words.result c.in_ok-named.named c.in_ok-named.was c.named_words.ensures
