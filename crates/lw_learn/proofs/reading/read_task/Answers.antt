use Rattle.std.proofs.Common.{sym}
use Rattle.lw_learn.proofs.ReadLemmas.{stage_fresh, stage_prior, system_read}
use Rattle.lw_learn.proofs.reading.read_task.Goals as goal

pub returns-in-Some : goal.returns-in-Some
returns-in-Some g c =
    let a = c.args.arguments.now in
    let f = (g.F.Files.state c.args.files.now) in
    let m = (g.F.Files.state c.read_whole.new.files) in
    let read = system_read a f m c.read_whole.result c.in_ok-system.system c.in_ok-system.was c.read_whole.ensures in
    stage_prior a f m (g.F.Files.state c.read_prior.new.files) c.in_ok-system.system read.0 read.1 read.2 read.3 c.in-Some.name.now (sym c.in-Some.ensures) c.read_prior.result c.read_prior.ensures

pub returns-in-None : goal.returns-in-None
returns-in-None g c =
    let a = c.args.arguments.now in
    let f = (g.F.Files.state c.args.files.now) in
    let m = (g.F.Files.state c.read_whole.new.files) in
    let read = system_read a f m c.read_whole.result c.in_ok-system.system c.in_ok-system.was c.read_whole.ensures in
    stage_fresh a f m m c.in_ok-system.system read.0 read.1 read.2 read.3 (sym c.in-None.ensures) c.fresh_task.result c.fresh_task.ensures.ok c.fresh_task.ensures.err
