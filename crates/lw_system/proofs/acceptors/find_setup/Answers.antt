use Rattle.std.proofs.Common.{ap}
use Rattle.lw_system.specs.SetupHint.{setup_in}
use Rattle.lw_system.proofs.AcceptorLemmas.{setup_found, setup_unfound}
use Rattle.lw_system.proofs.acceptors.find_setup.Goals as goal

pub returns-in-Ok-clause-found : goal.returns-in-Ok-clause-found
returns-in-Ok-clause-found g c =
    let F = g.F.Files in
    let f = F.state c.args.files.now in
    let m = F.state c.read_setup_with.new.files in
    let end = F.state c.read_said.new.files in
    let file = c.in-Ok.file in
    setup_found c.args.name.now f m (setup_in c.read_setup_with.result) c.read_setup_with.ensures.read end file.setup (ap setup_in c.in-Ok.is) file.hint.items c.in-Ok.ensures.hint c.read_said.result c.read_said.ensures

pub returns-in-Err-clause-found : goal.returns-in-Err-clause-found
returns-in-Err-clause-found g c =
    let F = g.F.Files in
    let f = F.state c.args.files.now in
    let m = F.state c.read_setup_with.new.files in
    setup_unfound c.args.name.now f m (setup_in c.read_setup_with.result) c.read_setup_with.ensures.read c.in-Err.stop c.new.result.items (ap setup_in c.in-Err.is) c.new.ensures.items
