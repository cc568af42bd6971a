-- The reading of the file that says a system that is asked for an acceptor, and of the acceptor file that a setup names.
use Rattle.std.specs.Prelude.{◌≡◌, ◌≢◌, ℕ, ◌≤◌, List, [], Result, IfOk, IfErr, OnOk}
use Rattle.lw_accept.specs.AcceptorFile.{AreAcceptorLetters, IsAcceptorFile, IsAcceptorFault}
use Rattle.lw_accept.specs.AskedNames.{HaveNoRoom}
use Rattle.lw_accept.specs.declared.fault.AcceptorFault.{AcceptorFault}
use Rattle.lw_accept.specs.declared.fault.AcceptorFault.TheVariants.{NoMemory}
use Rattle.lw_json.specs.SetupFile.{IsSetupFault, IsSetupFile}
use Rattle.lw_json.specs.declared.setup.Command.{Command}
use Rattle.lw_json.specs.declared.setup.Setup.{Setup}
use Rattle.lw_json.specs.declared.setup.Setup.TheVariants as setup
use Rattle.lw_outside.specs.Files.{File, FilesState, ReadsFile}
use Rattle.lw_system.specs.AcceptorSystems.{ReadsAcceptorSystem}
use Rattle.lw_system.specs.Finding.{HasHint}
use Rattle.lw_system.specs.Reads.{IsNotRead, MadeReads}
use Rattle.lw_system.specs.SetupHint.{TellsHint}
use Rattle.lw_system.specs.declared.source.Source.{Source}
use Rattle.lw_system.specs.declared.source.Source.TheVariants as source
use Rattle.lw_system.specs.declared.stops.AcceptorStop.{AcceptorStop}
use Rattle.lw_system.specs.declared.stops.AcceptorStop.TheVariants as stop
use Rattle.lw_system.specs.declared.stops.ReadStop.{ReadStop}
use Rattle.lw_system.specs.declared.system.System.{System}

-- the setup that was read, which says this
pub record SaidSetup (name : List ℕ) (files_before between : FilesState) (v : Setup) : Type 0 where
  pub file : ReadsFile IsSetupFile name files_before.holds files_before.reads between.reads v
  pub made : MadeReads files_before between []
  pub quiet : between.faults ≡ files_before.faults
  pub same : between.holds ≡ files_before.holds

-- the setup names an acceptor file, which wasn't read
pub record NamesNoAcceptor (name : List ℕ) (files_before files_now : FilesState) (why : ReadStop AcceptorFault) : Type 0 where
  pub between : FilesState
  pub table : List ℕ
  pub said : SaidSetup name files_before between (setup.Table table)
  pub unread : IsNotRead IsAcceptorFile IsAcceptorFault table between files_now why

-- the setup has a command, beside whose inputs `?` can't stand
pub record HasNoRoomFor (name : List ℕ) (files_before files_now : FilesState) (fault : AcceptorFault) : Type 0 where
  pub command : Command
  pub said : SaidSetup name files_before files_now (setup.Command command)
  pub fault_is : HaveNoRoom command.inputs fault
  pub told : fault ≢ NoMemory

-- why a file of this kind says no system that is asked for an acceptor
abbrev pub IsNoAcceptorSystem : Source → List ℕ → FilesState → FilesState → AcceptorStop → Type 0
IsNoAcceptorSystem source.Table name files_before files_now (stop.Table why) = IsNotRead IsAcceptorFile IsAcceptorFault name files_before files_now why
IsNoAcceptorSystem source.Table name files_before files_now why = ⊥
IsNoAcceptorSystem source.Setup name files_before files_now (stop.Setup why) = IsNotRead IsSetupFile IsSetupFault name files_before files_now why
IsNoAcceptorSystem source.Setup name files_before files_now (stop.Table why) = NamesNoAcceptor name files_before files_now why
IsNoAcceptorSystem source.Setup name files_before files_now (stop.Letters fault) = HasNoRoomFor name files_before files_now fault
IsNoAcceptorSystem source.Setup name files_before files_now stop.NoMemory = (c : Command) × SaidSetup name files_before files_now (setup.Command c) × AreAcceptorLetters c.inputs

-- the hint at a setup that was read, and none at an acceptor file, or at a setup that wasn't read
abbrev pub HasAcceptorHint : Source → List ℕ → List File → List File → List ℕ → AcceptorStop → Type 0
HasAcceptorHint source.Table name before after hint why = hint ≡ []
HasAcceptorHint source.Setup name before after hint (stop.Setup why) = hint ≡ []
HasAcceptorHint source.Setup name before after hint why = TellsHint name before after hint

-- what came of the reading of a file of this kind, and the hint at it
pub record HasFoundAcceptor (kind : Source) (name : List ℕ) (files_before files_now : FilesState) (result : Result System AcceptorStop) (hint : List ℕ) : Type 0 where
  pub ok : IfOk result (ReadsAcceptorSystem kind name files_before.holds files_before.reads files_now.reads)
  pub made : OnOk result (MadeReads files_before files_now [])
  pub quiet : OnOk result (files_now.faults ≡ files_before.faults)
  pub err : IfErr result (IsNoAcceptorSystem kind name files_before files_now)
  pub told : OnOk result (HasHint kind name files_before.reads files_now.reads hint)
  pub told_err : IfErr result (HasAcceptorHint kind name files_before.reads files_now.reads hint)
  pub same : files_now.holds ≡ files_before.holds
  pub counts : files_before.faults ≤ files_now.faults
