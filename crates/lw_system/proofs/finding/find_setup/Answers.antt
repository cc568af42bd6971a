use Rattle.std.proofs.Common.{ap}
use Rattle.lw_system.specs.SetupHint.{setup_in}
use Rattle.lw_system.proofs.FindingLemmas.{setup_found, setup_unfound}
use Rattle.lw_system.proofs.finding.find_setup.Goals as goal

pub returns-in-Ok-clause-found : goal.returns-in-Ok-clause-found
returns-in-Ok-clause-found g c =
    let F = g.F.Files in
    let f = F.state c.args.files.now in
    let mid = c.read_setup_with.new.files in
    let m = F.state mid in
    let end = c.read_said.new.files in
    let g' = F.state end in
    let file = c.in-Ok.file in
    setup_found c.args.name.now f m (setup_in c.read_setup_with.result) c.read_setup_with.ensures.read g' file.setup (ap setup_in c.in-Ok.is) file.hint.items c.in-Ok.ensures.hint c.read_said.result c.read_said.ensures.read

pub returns-in-Err-clause-found : goal.returns-in-Err-clause-found
returns-in-Err-clause-found g c =
    let F = g.F.Files in
    let f = F.state c.args.files.now in
    let mid = c.read_setup_with.new.files in
    let m = F.state mid in
    setup_unfound c.args.name.now f m (setup_in c.read_setup_with.result) c.read_setup_with.ensures.read c.in-Err.stop c.new.result.items (ap setup_in c.in-Err.is) c.new.ensures.items
