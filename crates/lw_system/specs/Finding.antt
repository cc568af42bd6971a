-- The reading of the file that says a system, and of the table file that a setup names.
use Rattle.std.specs.Prelude.{◌≡◌, ◌⊎◌, ℕ, ◌≤◌, List, [], Result, IfOk, IfErr, OnOk}
use Rattle.lw_json.specs.MachineFault.{IsMachineFault}
use Rattle.lw_json.specs.Formats.{IsMachineFile}
use Rattle.lw_json.specs.SetupFile.{IsSetupFault, IsSetupFile}
use Rattle.lw_json.specs.declared.setup.Setup.TheVariants as setup
use Rattle.lw_outside.specs.Files.{File, FilesState, ReadsFile}
use Rattle.lw_system.specs.Reads.{IsNotRead, MadeReads}
use Rattle.lw_system.specs.SetupHint.{TellsHint}
use Rattle.lw_system.specs.Systems.{ReadsSystem}
use Rattle.lw_system.specs.declared.source.Source.{Source}
use Rattle.lw_system.specs.declared.source.Source.TheVariants as source
use Rattle.lw_system.specs.declared.stops.SystemStop.{SystemStop}
use Rattle.lw_system.specs.declared.system.System.{System}

-- a table file of this name wasn't read
pub record IsNoTable (name : List ℕ) (files_before files_now : FilesState) (why : SystemStop) : Type 0 where
  pub file : why.file ≡ source.Table
  pub unread : IsNotRead IsMachineFile IsMachineFault name files_before files_now why.stop

-- a setup file of this name wasn't read
pub record IsNoSetup (name : List ℕ) (files_before files_now : FilesState) (why : SystemStop) : Type 0 where
  pub file : why.file ≡ source.Setup
  pub unread : IsNotRead IsSetupFile IsSetupFault name files_before files_now why.stop

-- the setup file names a table file, which wasn't read
pub record NamesNoTable (name : List ℕ) (files_before files_now : FilesState) (why : SystemStop) : Type 0 where
  pub between : FilesState
  pub table : List ℕ
  pub setup_file : ReadsFile IsSetupFile name files_before.holds files_before.reads between.reads (setup.Table table)
  pub made : MadeReads files_before between []
  pub quiet : between.faults ≡ files_before.faults
  pub same : between.holds ≡ files_before.holds
  pub refused : IsNoTable table between files_now why

-- why a file of this kind says no system
abbrev pub IsNoSystem : Source → List ℕ → FilesState → FilesState → SystemStop → Type 0
IsNoSystem source.Table name files_before files_now why = IsNoTable name files_before files_now why
IsNoSystem source.Setup name files_before files_now why = IsNoSetup name files_before files_now why ⊎ NamesNoTable name files_before files_now why

-- the hint at a file that was read: that at the members of a setup; at a table there is none
abbrev pub HasHint : Source → List ℕ → (before after : List File) → List ℕ → Type 0
HasHint source.Table name before after hint = hint ≡ []
HasHint source.Setup name before after hint = TellsHint name before after hint

-- why a file of this kind says no system, and the hint at it: at a setup that wasn't read there is none
abbrev pub IsNoSystemWith : Source → List ℕ → FilesState → FilesState → (hint : List ℕ) → SystemStop → Type 0
IsNoSystemWith source.Table name files_before files_now hint why = IsNoTable name files_before files_now why × (hint ≡ [])
IsNoSystemWith source.Setup name files_before files_now hint why =
    (IsNoSetup name files_before files_now why × (hint ≡ []))
    ⊎ (NamesNoTable name files_before files_now why × TellsHint name files_before.reads files_now.reads hint)

-- what came of the reading of a file of this kind
pub record HasReadSystem (kind : Source) (name : List ℕ) (files_before files_now : FilesState) (result : Result System SystemStop) : Type 0 where
  pub ok : IfOk result (ReadsSystem kind name files_before.holds files_before.reads files_now.reads)
  pub made : OnOk result (MadeReads files_before files_now [])
  pub quiet : OnOk result (files_now.faults ≡ files_before.faults)
  pub err : IfErr result (IsNoSystem kind name files_before files_now)
  pub same : files_now.holds ≡ files_before.holds
  pub counts : files_before.faults ≤ files_now.faults

-- and what is reported of it: the hint at it
pub record HasFound (kind : Source) (name : List ℕ) (files_before files_now : FilesState) (result : Result System SystemStop) (hint : List ℕ) : Type 0 where
  pub read : HasReadSystem kind name files_before files_now result
  pub told : OnOk result (HasHint kind name files_before.reads files_now.reads hint)
  pub err : IfErr result (IsNoSystemWith kind name files_before files_now hint)
