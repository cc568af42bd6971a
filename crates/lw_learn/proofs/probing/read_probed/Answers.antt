use Rattle.lw_learn.proofs.ProbeLemmas.{stage_probed, stage_unread}
use Rattle.lw_learn.proofs.probing.read_probed.Goals as goal

pub returns-in-Ok : goal.returns-in-Ok
returns-in-Ok g c =
    let F = g.F.Files in
    stage_probed c.args.arguments.now (F.state c.args.files.now) (F.state c.read_worded.new.files) (F.state c.probe_for.new.files) c.read_worded.result c.in-Ok.worded c.probe_for.result c.in-Ok.is c.read_worded.ensures c.probe_for.ensures

pub returns-in-Err : goal.returns-in-Err
returns-in-Err g c =
    let F = g.F.Files in
    stage_unread c.args.arguments.now (F.state c.args.files.now) (F.state c.read_worded.new.files) c.read_worded.result c.in-Err.unread c.in-Err.is c.read_worded.ensures
