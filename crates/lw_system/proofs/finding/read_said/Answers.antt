use Rattle.std.proofs.Common.{◌≡◌, ◌∙◌, List, ℕ, ap, subst, sym}
use Rattle.lw_json.specs.declared.setup.Setup.{Setup}
use Rattle.lw_json.specs.declared.setup.Setup.TheVariants as setup
use Rattle.lw_json.specs.SetupFile.{IsSetupFile}
use Rattle.lw_system.specs.bodies.Found.{HasReadSaid}
use Rattle.lw_system.proofs.FindingLemmas.{table_said}
use Rattle.lw_system.proofs.SetupLemmas.{has_words}
use Rattle.lw_system.proofs.finding.read_said.Goals as goal

pub returns-in-Table-clause-read : goal.returns-in-Table-clause-read
returns-in-Table-clause-read g c =
    let F = g.F.Files in
    let f = F.state c.args.files.now in
    let end = c.read_table.new.files in
    let g' = F.state end in
    let table = c.as_str.result.now in
    let called : table ≡ c.in-Table.table = c.as_str.ensures.value ∙ c.get.ensures in
    subst (λ (v : Setup). HasReadSaid v f g' c.read_table.result) (ap (λ (n : List ℕ). setup.Table n) called ∙ sym c.in-Table.is)
    (table_said table f g' c.read_table.result c.read_table.ensures.read)

pub returns-in-Command-clause-words : goal.returns-in-Command-clause-words
returns-in-Command-clause-words g c =
    let file = c.requires.file in
    has_words file.0 c.in-Command.command (subst (λ (v : Setup). IsSetupFile file.0 v) c.in-Command.is file.1)
