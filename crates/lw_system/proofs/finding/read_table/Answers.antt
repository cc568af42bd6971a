use Rattle.lw_system.proofs.FindingLemmas.{machine_read, machine_unread}
use Rattle.lw_system.proofs.finding.read_table.Goals as goal

pub returns-in-Ok-clause-read : goal.returns-in-Ok-clause-read
returns-in-Ok-clause-read g c =
    let F = g.F.Files in
    let f = F.state c.args.files.now in
    let read = c.read_machine_file.new.files in
    machine_read c.args.name.now f (F.state read) c.read_machine_file.result c.read_machine_file.ensures c.in-Ok.machine c.in-Ok.is

pub returns-in-Err-clause-read : goal.returns-in-Err-clause-read
returns-in-Err-clause-read g c =
    let F = g.F.Files in
    let f = F.state c.args.files.now in
    let read = c.read_machine_file.new.files in
    machine_unread c.args.name.now f (F.state read) c.read_machine_file.result c.read_machine_file.ensures c.in-Err.stop c.in-Err.is
