use Rattle.lw_learn.proofs.RunLemmas.{answered_end, ends_leaving, plain_end}
use Rattle.std.proofs.Common.{length}
use Rattle.lw_system.specs.Systems.{letters_of}
use Rattle.lw_learn.proofs.command.learn_read.Goals as goal

pub returns-clause-learned : goal.returns-clause-learned
returns-clause-learned g c =
    let F = g.F.Files in
    let P = g.P.Spawner in
    let O = g.O.Sink in
    let E = g.E.Sink in
    let before = c.args.world.now.files in
    let files = c.finish-end.new.files in
    let child = c.args.world.now.spawner in
    let children = c.learn_system-found.new.spawner in
    let left = c.leave_last-left.new.files in
    let f = F.state before in
    let l = F.state left in
    let h = F.state files in
    let b = P.state child in
    let z = P.state children in
    let o = O.state c.args.world.now.out in
    let p = O.state c.finish-end.new.out in
    let e = E.state c.args.world.now.err in
    let d = E.state c.finish-end.new.err in
    let found = c.learn_system-found.result in
    let is = c.learn_system-found.ensures in
    ends_leaving c.args.arguments.now c.args.worded.task.system c.args.worded.task.cache.kept found.names found.learned found.kept.answers f l h b z o p e d c.finish-end.result is.found is.model is.stops c.finish-end.ensures.told c.leave_last-left.ensures

pub returns-clause-answered : goal.returns-clause-answered
returns-clause-answered g c some =
    let found = c.learn_system-found in
    let told = c.finish-end.ensures.told.told in
    answered_end c.args.arguments.now.goal c.args.worded.words found.result.learned found.result.kept.answers c.finish-end.result told.carries told.kept_is found.ensures.asked some

pub returns-clause-plainly : goal.returns-clause-plainly
returns-clause-plainly g c =
    let found = c.learn_system-found in
    let told = c.finish-end.ensures.told.told in
    plain_end c.args.arguments.now.goal c.args.arguments.now (length (letters_of c.args.worded.task.system)) c.args.worded.words c.args.worded.task.cache.kept found.result.learned found.result.kept.answers c.finish-end.result told.carries told.kept_is found.ensures.plainly
