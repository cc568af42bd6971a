use Rattle.lw_learn.proofs.ProbeLemmas.{tried, untried}
use Rattle.lw_learn.proofs.probing.probe_for.Goals as goal

pub returns-in-Ok : goal.returns-in-Ok
returns-in-Ok g c =
    let F = g.F.Files in
    tried c.args.arguments.now c.args.worded (F.state c.args.files.now) (F.state c.probe_files.new.files) c.in-Ok.ensures

pub returns-in-Err : goal.returns-in-Err
returns-in-Err g c =
    let F = g.F.Files in
    let u = c.unwritable.ensures in
    untried c.args.arguments.now c.args.worded (F.state c.args.files.now) (F.state c.probe_files.new.files) c.in-Err.outcome c.unwritable.result c.in-Err.ensures u.outcome u.system u.kept
