use Rattle.std.proofs.Common.{◌≡◌, ◌∙◌, List, ℕ, Ok, ap, subst, sym}
use Rattle.lw_json.specs.SetupFile.{IsSetupFile}
use Rattle.lw_json.specs.declared.setup.Setup.{Setup}
use Rattle.lw_json.specs.declared.setup.Setup.TheVariants as setup
use Rattle.lw_system.specs.bodies.FoundAcceptor.{HasSaidAcceptor}
use Rattle.lw_system.proofs.AcceptorLemmas.{command_asked, table_said}
use Rattle.lw_system.proofs.SetupLemmas.{has_words}
use Rattle.lw_system.proofs.acceptors.read_said.Goals as goal

pub returns-in-Table : goal.returns-in-Table
returns-in-Table g c =
    let F = g.F.Files in
    let f = F.state c.args.files.now in
    let end = F.state c.table_system.new.files in
    let table = c.as_str.result.now in
    let called : table ≡ c.in-Table.table = c.as_str.ensures.value ∙ c.get.ensures in
    subst (λ (v : Setup). HasSaidAcceptor v f end c.table_system.result) (ap (λ (n : List ℕ). setup.Table n) called ∙ sym c.in-Table.is)
    (table_said table f end c.table_system.result c.table_system.ensures)

pub returns-in-Ok : goal.returns-in-Ok
returns-in-Ok g c =
    let F = g.F.Files in
    let f = F.state c.args.files.now in
    let file = c.requires.file in
    let command = c.in-Command.command in
    let some = has_words file.0 command (subst (λ (v : Setup). IsSetupFile file.0 v) c.in-Command.is file.1) in
    subst (λ (v : Setup). HasSaidAcceptor v f f (Ok c.in-Ok.system)) (sym c.in-Command.is) (command_asked command f c.in-Ok.system some c.in-Ok.ensures)
