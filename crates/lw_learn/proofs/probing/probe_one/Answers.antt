use Rattle.lw_learn.proofs.ProbeLemmas.{one_probed, one_unprobed}
use Rattle.lw_learn.proofs.probing.probe_one.Goals as goal

pub returns-in-Ok : goal.returns-in-Ok
returns-in-Ok g c =
    let F = g.F.Files in
    one_probed c.args.role c.args.name.now (F.state c.args.files.now) (F.state c.probe.new.self) c.in-Ok.ensures

pub returns-in-Err : goal.returns-in-Err
returns-in-Err g c =
    let F = g.F.Files in
    one_unprobed c.args.role c.args.name.now (F.state c.args.files.now) (F.state c.probe.new.self) c.in-Err.stop c.unprobed.result c.unprobed.ensures c.in-Err.ensures
