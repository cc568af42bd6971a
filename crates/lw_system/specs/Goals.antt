-- The file that says a system, by what is to be learned of it.
use Rattle.std.specs.Prelude.{◌≡◌, ℕ, ◌≤◌, List, [], Option, Result, IfOk, IfErr, OnOk}
use Rattle.lw_json.specs.Formats.{IsMachineFile}
use Rattle.lw_json.specs.declared.files.Machine.{Machine}
use Rattle.lw_outside.specs.Files.{File, FilesState}
use Rattle.lw_system.specs.AcceptorFinding.{HasAcceptorHint, IsNoAcceptorSystem}
use Rattle.lw_system.specs.AcceptorSystems.{IsAskedFor, IsViewFile, ReadsAcceptorSystem}
use Rattle.lw_system.specs.Finding.{HasHint, IsNoSystemWith}
use Rattle.lw_system.specs.Reads.{MadeReads}
use Rattle.lw_system.specs.Systems.{ReadsSystem}
use Rattle.lw_system.specs.declared.goal.Goal.{Goal}
use Rattle.lw_system.specs.declared.goal.Goal.TheVariants as goal
use Rattle.lw_system.specs.declared.source.Source.{Source}
use Rattle.lw_system.specs.declared.stops.NoSystem.{NoSystem}
use Rattle.lw_system.specs.declared.stops.NoSystem.TheVariants as none
use Rattle.lw_system.specs.declared.system.System.{System}

-- the bytes are the file of a machine, or of an acceptor in whose place this machine is asked
abbrev pub IsModelFile : Goal → List ℕ → Machine → Type 0
IsModelFile goal.Machine bytes m = IsMachineFile bytes m
IsModelFile goal.Acceptor bytes m = IsViewFile bytes m

-- a system of which an acceptor is learned is asked `?` and such letters, and answers `yes`, `no` and `ok`
abbrev pub IsSystemFor : Goal → System → Type 0
IsSystemFor goal.Machine s = Unit {0}
IsSystemFor goal.Acceptor s = (letters : List (List ℕ)) × IsAskedFor letters s

-- the bytes that were read of the system's file, and of the table file that a setup names, say this system
abbrev pub ReadsSystemFor : Goal → Source → List ℕ → Option (List File) → List File → List File → System → Type 0
ReadsSystemFor goal.Machine kind name holds before after s = ReadsSystem kind name holds before after s
ReadsSystemFor goal.Acceptor kind name holds before after s = ReadsAcceptorSystem kind name holds before after s

-- why a file of this kind says no system, and the hint at it
abbrev pub IsNoSystemFor : Goal → Source → List ℕ → FilesState → FilesState → (hint : List ℕ) → NoSystem → Type 0
IsNoSystemFor goal.Machine kind name files_before files_now hint (none.Machine why) = IsNoSystemWith kind name files_before files_now hint why
IsNoSystemFor goal.Machine kind name files_before files_now hint (none.Acceptor why) = ⊥
IsNoSystemFor goal.Acceptor kind name files_before files_now hint (none.Machine why) = ⊥
IsNoSystemFor goal.Acceptor kind name files_before files_now hint (none.Acceptor why) =
    IsNoAcceptorSystem kind name files_before files_now why × HasAcceptorHint kind name files_before.reads files_now.reads hint why

-- what came of the reading of a file of this kind, and the hint at it
pub record HasFoundFor (aim : Goal) (kind : Source) (name : List ℕ) (files_before files_now : FilesState) (result : Result System NoSystem) (hint : List ℕ) : Type 0 where
  pub ok : IfOk result (ReadsSystemFor aim kind name files_before.holds files_before.reads files_now.reads)
  pub made : OnOk result (MadeReads files_before files_now [])
  pub quiet : OnOk result (files_now.faults ≡ files_before.faults)
  pub told : OnOk result (HasHint kind name files_before.reads files_now.reads hint)
  pub err : IfErr result (IsNoSystemFor aim kind name files_before files_now hint)
  pub same : files_now.holds ≡ files_before.holds
  pub counts : files_before.faults ≤ files_now.faults
