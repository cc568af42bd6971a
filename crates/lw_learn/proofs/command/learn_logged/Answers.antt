use Rattle.std.proofs.Common.{arith, inl, inr}
use Rattle.lw_learn.proofs.RunLemmas.{ends_read, ends_unread, task_ready}
use Rattle.lw_learn.proofs.command.learn_logged.Goals as goal

pub learn_read-requires-clause-ready : goal.learn_read-requires-clause-ready
learn_read-requires-clause-ready g c κs within =
    let F = g.F.Files in
    let before = c.args.world.now.files in
    let read = c.read_probed.new.files in
    let f = F.state before in
    let m = F.state read in
    (task_ready c.args.arguments.now f m c.read_probed.result c.in-Ok.worded c.in-Ok.is c.read_probed.ensures).ready

pub learn_read-requires-clause-fits : goal.learn_read-requires-clause-fits
learn_read-requires-clause-fits g c κs within =
    let F = g.F.Files in
    let f = F.state c.args.world.now.files in
    let m = F.state c.read_probed.new.files in
    (task_ready c.args.arguments.now f m c.read_probed.result c.in-Ok.worded c.in-Ok.is c.read_probed.ensures).fits

pub learn_read-requires-clause-letters : goal.learn_read-requires-clause-letters
learn_read-requires-clause-letters g c κs within =
    let F = g.F.Files in
    let before = c.args.world.now.files in
    let read = c.read_probed.new.files in
    let f = F.state before in
    let m = F.state read in
    (task_ready c.args.arguments.now f m c.read_probed.result c.in-Ok.worded c.in-Ok.is c.read_probed.ensures).letters

pub learn_read-requires-clause-batch : goal.learn_read-requires-clause-batch
learn_read-requires-clause-batch g c κs within =
    let F = g.F.Files in
    let before = c.args.world.now.files in
    let read = c.read_probed.new.files in
    let f = F.state before in
    let m = F.state read in
    (task_ready c.args.arguments.now f m c.read_probed.result c.in-Ok.worded c.in-Ok.is c.read_probed.ensures).few

pub returns-in-Ok-clause-ends : goal.returns-in-Ok-clause-ends
returns-in-Ok-clause-ends g c =
    let F = g.F.Files in
    let P = g.P.Spawner in
    let O = g.O.Sink in
    let E = g.E.Sink in
    let before = c.args.world.now.files in
    let read = c.read_probed.new.files in
    let files = c.learn_read.new.world.files in
    let child = c.args.world.now.spawner in
    let children = c.learn_read.new.world.spawner in
    let f = F.state before in
    let m = F.state read in
    let h = F.state files in
    let b = P.state child in
    let z = P.state children in
    let o = O.state c.args.world.now.out in
    let p = O.state c.learn_read.new.world.out in
    let e = E.state c.args.world.now.err in
    let d = E.state c.learn_read.new.world.err in
    inr (ends_read c.args.arguments.now f m h b z o p e d c.learn_read.result c.read_probed.result c.in-Ok.worded c.in-Ok.is c.read_probed.ensures c.learn_read.ensures.learned c.learn_read.ensures.answered c.learn_read.ensures.plainly)

pub returns-in-Ok-clause-counts : goal.returns-in-Ok-clause-counts
returns-in-Ok-clause-counts g c =
    let read = c.read_probed.ensures.counts in
    let learned = c.learn_read.ensures.learned.learned.told.counts in
    let left = c.learn_read.ensures.learned.last.counts in
    let files = learned.0 in
    (omega arith, learned.1, learned.2)

pub returns-in-Err-clause-counts : goal.returns-in-Err-clause-counts
returns-in-Err-clause-counts g c =
    let read = c.read_probed.ensures.counts in
    let saved = c.end_unread-end.ensures.saved.saved.counts in
    (omega arith, omega arith, c.end_unread-end.ensures.counts)

pub returns-in-Err-clause-ends : goal.returns-in-Err-clause-ends
returns-in-Err-clause-ends g c =
    let F = g.F.Files in
    let P = g.P.Spawner in
    let O = g.O.Sink in
    let E = g.E.Sink in
    let before = c.args.world.now.files in
    let read = c.read_probed.new.files in
    let child = c.args.world.now.spawner in
    let f = F.state before in
    let files = c.end_unread-end.new.files in
    let m = F.state read in
    let h = F.state files in
    let b = P.state child in
    let o = O.state c.args.world.now.out in
    let e = E.state c.args.world.now.err in
    let d = E.state c.end_unread-end.new.err in
    let w = c.end_unread-end.ensures in
    inl (ends_unread c.args.arguments.now f m h b o e d c.end_unread-end.result c.read_probed.result c.in-Err.unread c.in-Err.is c.read_probed.ensures
    (record { outcome = w.outcome; model = w.model; learner = w.learner; kept = w.kept; outputs = w.outputs; saved = w.saved; said = w.said; part = w.part }))
