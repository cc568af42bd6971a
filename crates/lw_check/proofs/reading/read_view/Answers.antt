use Rattle.lw_check.proofs.ReadLemmas.{view_read, view_unread}
use Rattle.lw_check.proofs.reading.read_view.Goals as goal

pub returns-in-Ok : goal.returns-in-Ok
returns-in-Ok g c =
    let F = g.F.Files in
    view_read c.args.name.now (F.state c.args.files.now) (F.state c.read_view_file.new.files) c.read_view_file.result c.read_view_file.ensures c.in-Ok.machine c.in-Ok.is

pub returns-in-Err : goal.returns-in-Err
returns-in-Err g c =
    let F = g.F.Files in
    view_unread c.args.name.now (F.state c.args.files.now) (F.state c.read_view_file.new.files) c.read_view_file.result c.read_view_file.ensures c.in-Err.stop c.acceptor_outcome.result c.in-Err.is c.acceptor_outcome.ensures
