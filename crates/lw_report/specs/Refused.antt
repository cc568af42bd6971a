-- Why a file in a role was refused, by the outcome.
use Rattle.std.specs.Prelude.{◌≡◌, ℕ, List}
use Rattle.lw_json.specs.declared.fault.JsonFault.{JsonFault}
use Rattle.lw_outside.specs.Files.{FilesState}
use Rattle.lw_system.specs.Reads.{IsNotRead}
use Rattle.lw_system.specs.declared.stops.ReadStop.{ReadStop}
use Rattle.lw_report.specs.Stops.{read_outcome}
use Rattle.lw_report.specs.declared.outcome.Outcome.{Outcome}
use Rattle.lw_report.specs.declared.role.Role.{Role}

-- the file in a role wasn't read, and this is the outcome of that
pub record IsRefused {V : Type 0} (IsFile : List ℕ → V → Type 0) (HasFirst : List ℕ → JsonFault → Type 0) (role : Role) (name : List ℕ) (files_before files_now : FilesState) (outcome : Outcome) : Type 0 where
  pub stop : ReadStop JsonFault
  pub comes_to : outcome ≡ read_outcome role stop
  pub unread : IsNotRead IsFile HasFirst name files_before files_now stop
