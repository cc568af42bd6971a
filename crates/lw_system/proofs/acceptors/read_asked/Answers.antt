use Rattle.lw_system.proofs.AcceptorLemmas.{asked_unread, asked_wants}
use Rattle.lw_system.proofs.acceptors.read_asked.Goals as goal

pub returns-in-Err : goal.returns-in-Err
returns-in-Err g c =
    let F = g.F.Files in
    asked_unread c.args.name.now (F.state c.args.files.now) (F.state c.read_acceptor_file.new.files) c.read_acceptor_file.result c.read_acceptor_file.ensures c.in-Err.stop c.in-Err.is

pub returns : goal.returns
returns g c =
    let F = g.F.Files in
    asked_wants c.args.name.now (F.state c.args.files.now) (F.state c.read_acceptor_file.new.files) c.read_acceptor_file.result c.read_acceptor_file.ensures c.in-Ok.acceptor c.in-Ok.is
