use Rattle.lw_system.proofs.GoalLemmas.{view_unread}
use Rattle.lw_system.proofs.acceptors.read_view_file.Goals as goal

pub returns-in-Err : goal.returns-in-Err
returns-in-Err g c =
    let F = g.F.Files in
    view_unread c.args.name.now (F.state c.args.files.now) (F.state c.read_acceptor_file.new.files) c.read_acceptor_file.result c.read_acceptor_file.ensures c.in-Err.stop c.in-Err.is
