use Rattle.lw_check.proofs.ReadLemmas.{machine_read, machine_unread}
use Rattle.lw_check.proofs.reading.read_machine.Goals as goal

pub returns-in-Ok : goal.returns-in-Ok
returns-in-Ok g c =
    let F = g.F.Files in
    machine_read c.args.name.now (F.state c.args.files.now) (F.state c.read_machine_file.new.files) c.read_machine_file.result c.read_machine_file.ensures c.in-Ok.machine c.in-Ok.is

pub returns-in-Err : goal.returns-in-Err
returns-in-Err g c =
    let F = g.F.Files in
    machine_unread c.args.name.now (F.state c.args.files.now) (F.state c.read_machine_file.new.files) c.read_machine_file.result c.read_machine_file.ensures c.in-Err.stop c.read_outcome.result c.in-Err.is c.read_outcome.ensures
