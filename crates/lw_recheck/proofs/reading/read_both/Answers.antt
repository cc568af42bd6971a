use Rattle.lw_recheck.proofs.ReadLemmas.{behind, both_read, unread_answers, unread_system}
use Rattle.lw_recheck.proofs.reading.read_both.Goals as goal

pub returns-in-Err-clause-read : goal.returns-in-Err-clause-read
returns-in-Err-clause-read g c =
    let F = g.F.Files in
    let files = c.args.files.now in
    let mid = c.read_system.new.files in
    let f = F.state files in
    let m = F.state mid in
    unread_system c.args.setup.now c.args.answers.now f m c.read_system.result c.read_system.ensures.read c.in-Err.stop c.unread_outcome.result c.in-Err.is c.unread_outcome.ensures

pub returns-in-Ok-read_answers_file-clause-read : goal.returns-in-Ok-read_answers_file-clause-read
returns-in-Ok-read_answers_file-clause-read g c =
    let F = g.F.Files in
    let files = c.args.files.now in
    let mid = c.read_system.new.files in
    let f = F.state files in
    let m = F.state mid in
    let end = c.read_answers_file.new.files in
    let h = F.state end in
    let first = behind c.args.setup.now c.args.answers.now f m c.read_system.result c.read_system.ensures.read c.in-Ok.system c.in-Ok.is in
    both_read c.args.setup.now c.args.answers.now f m h c.in-Ok.system first c.read_answers_file.result c.read_answers_file.ensures c.in-Ok-read_answers_file.answers c.in-Ok-read_answers_file.is c.with_answers.result c.with_answers.ensures.ok c.with_answers.ensures.err

pub returns-in-Err-read_answers_file-clause-read : goal.returns-in-Err-read_answers_file-clause-read
returns-in-Err-read_answers_file-clause-read g c =
    let F = g.F.Files in
    let files = c.args.files.now in
    let mid = c.read_system.new.files in
    let f = F.state files in
    let m = F.state mid in
    let end = c.read_answers_file.new.files in
    let h = F.state end in
    let first = behind c.args.setup.now c.args.answers.now f m c.read_system.result c.read_system.ensures.read c.in-Ok.system c.in-Ok.is in
    unread_answers c.args.setup.now c.args.answers.now f m h c.in-Ok.system first c.read_answers_file.result c.read_answers_file.ensures c.in-Err-read_answers_file.stop c.read_outcome.result c.in-Err-read_answers_file.is c.read_outcome.ensures
