use Rattle.lw_json.proofs.Faults.{handed_on}
use Rattle.lw_check.specs.Reading.{IsUnread}
use Rattle.lw_check.proofs.ReadLemmas.{answers_unread, pair_read}
use Rattle.lw_check.proofs.reading.read_pair.Goals as goal

pub returns-in_err-machine-clause-err : goal.returns-in_err-machine-clause-err
returns-in_err-machine-clause-err g c =
    let F = g.F.Files in
    handed_on (IsUnread c.args.goal c.args.model.now c.args.answers.now (F.state c.args.files.now) (F.state c.read_model.new.files)) c.from_residual.result c.in_err-machine.field-0.0 c.from_residual.ensures.1 (c.in_err-machine.ensures.err c.args.answers.now)

pub returns-in-Ok-clause-ok : goal.returns-in-Ok-clause-ok
returns-in-Ok-clause-ok g c =
    let F = g.F.Files in
    pair_read c.args.goal c.args.model.now c.args.answers.now (F.state c.args.files.now) (F.state c.read_model.new.files) (F.state c.read_answers_file.new.files) c.in_ok-machine.machine c.in_ok-machine.ensures c.read_answers_file.result c.read_answers_file.ensures c.in-Ok.answers c.in-Ok.is

pub returns-in-Err-clause-err : goal.returns-in-Err-clause-err
returns-in-Err-clause-err g c =
    let F = g.F.Files in
    answers_unread c.args.goal c.args.model.now c.args.answers.now (F.state c.args.files.now) (F.state c.read_model.new.files) (F.state c.read_answers_file.new.files) c.in_ok-machine.machine c.in_ok-machine.ensures c.read_answers_file.result c.read_answers_file.ensures c.in-Err.stop c.read_outcome.result c.in-Err.is c.read_outcome.ensures
