-- What comes of the reading of a table file, and of what a setup says.
use Rattle.std.specs.Prelude.{◌≡◌, ℕ, ◌≤◌, List, [], ◌++◌, Result, IfOk, IfErr, OnOk}
use Rattle.lw_json.specs.Formats.{IsMachineFile}
use Rattle.lw_json.specs.declared.files.Machine.{Machine}
use Rattle.lw_json.specs.declared.setup.Setup.{Setup}
use Rattle.lw_json.specs.declared.setup.Setup.TheVariants as setup
use Rattle.lw_outside.specs.Files.{File, FilesState, ReadsFile}
use Rattle.lw_system.specs.Finding.{IsNoTable}
use Rattle.lw_system.specs.Reads.{MadeReads}
use Rattle.lw_system.specs.Systems.{SaysSystem}
use Rattle.lw_system.specs.declared.stops.SystemStop.{SystemStop}
use Rattle.lw_system.specs.declared.system.System.{System}
use Rattle.lw_system.specs.declared.system.System.TheVariants.{Table}

-- what came of the reading of a table file
pub record HasReadMachine (name : List ℕ) (files_before files_now : FilesState) (result : Result System SystemStop) : Type 0 where
  pub ok : IfOk result (λ s. (m : Machine) ×
      ReadsFile IsMachineFile name files_before.holds files_before.reads files_now.reads m × (s ≡ Table m))
  pub made : OnOk result (MadeReads files_before files_now [])
  pub quiet : OnOk result (files_now.faults ≡ files_before.faults)
  pub err : IfErr result (IsNoTable name files_before files_now)
  pub grown : (more : List File) × (files_now.reads ≡ files_before.reads ++ more)
  pub same : files_now.holds ≡ files_before.holds
  pub counts : files_before.faults ≤ files_now.faults

-- what came of the reading of what a setup says
pub record HasReadSaid (v : Setup) (files_before files_now : FilesState) (result : Result System SystemStop) : Type 0 where
  pub ok : IfOk result (SaysSystem v files_before.holds files_before.reads files_now.reads)
  pub made : OnOk result (MadeReads files_before files_now [])
  pub quiet : OnOk result (files_now.faults ≡ files_before.faults)
  pub err : IfErr result (λ why. (table : List ℕ) × (v ≡ setup.Table table) × IsNoTable table files_before files_now why)
  pub grown : (more : List File) × (files_now.reads ≡ files_before.reads ++ more)
  pub same : files_now.holds ≡ files_before.holds
  pub counts : files_before.faults ≤ files_now.faults
