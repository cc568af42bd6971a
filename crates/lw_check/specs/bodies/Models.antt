-- What came of the reading of the model file.
use Rattle.std.specs.Prelude.{◌≡◌, ℕ, ◌≤◌, List, false, Result, IfOk, IfErr, OnOk}
use Rattle.lw_json.specs.declared.files.Machine.{Machine}
use Rattle.lw_outside.specs.Files.{FilesState, ReadsFile}
use Rattle.lw_system.specs.Goals.{IsModelFile}
use Rattle.lw_system.specs.declared.goal.Goal.{Goal}
use Rattle.lw_report.specs.declared.outcome.Outcome.{Outcome}
use Rattle.lw_check.specs.Reading.{IsUnread, model_read}

-- one read gave the model, and counted no fault; or this is why no pair is read, whatever the name of the answers file
pub record HasReadModel (aim : Goal) (model : List ℕ) (before now : FilesState) (result : Result Machine Outcome) : Type 0 where
  pub ok : IfOk result (ReadsFile (IsModelFile aim) model before.holds before.reads now.reads)
  pub calls : OnOk result (now.calls ≡ model_read model false before)
  pub quiet : OnOk result (now.faults ≡ before.faults)
  pub err : IfErr result (λ outcome. (answers : List ℕ) → IsUnread aim model answers before now outcome)
  pub counts : before.faults ≤ now.faults
  pub same : now.holds ≡ before.holds
