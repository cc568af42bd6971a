-- What comes of the reading of an acceptor file, and of what a setup says that is asked for an acceptor.
use Rattle.std.specs.Prelude.{◌≡◌, ◌≢◌, ℕ, ◌≤◌, List, [], ◌++◌, Result, Ok, Err, IfOk, IfErr, OnOk}
use Rattle.lw_accept.specs.Acceptor.{NamedAcceptor}
use Rattle.lw_accept.specs.AcceptorFile.{AreAcceptorLetters, IsAcceptorFile, IsAcceptorFault}
use Rattle.lw_accept.specs.AskedNames.{HaveNoRoom}
use Rattle.lw_accept.specs.declared.fault.AcceptorFault.{AcceptorFault}
use Rattle.lw_accept.specs.declared.fault.AcceptorFault.TheVariants.{NoMemory}
use Rattle.lw_json.specs.declared.files.Machine.{Machine}
use Rattle.lw_json.specs.declared.setup.Command.{Command}
use Rattle.lw_json.specs.declared.setup.Setup.{Setup}
use Rattle.lw_json.specs.declared.setup.Setup.TheVariants as setup
use Rattle.lw_outside.specs.Files.{File, FilesState}
use Rattle.lw_system.specs.AcceptorSystems.{IsViewOf, SaysAcceptorSystem, asked_command}
use Rattle.lw_system.specs.Reads.{IsNotRead, MadeReads}
use Rattle.lw_system.specs.Systems.{HasWords}
use Rattle.lw_system.specs.declared.stops.AcceptorStop.{AcceptorStop}
use Rattle.lw_system.specs.declared.stops.AcceptorStop.TheVariants as stop
use Rattle.lw_system.specs.declared.stops.ReadStop.{ReadStop}
use Rattle.lw_system.specs.declared.system.System.{System}
use Rattle.lw_system.specs.declared.system.System.TheVariants.{Table, Children}

-- the system is the acceptor's machine
abbrev pub HasViewed : NamedAcceptor → System → Type 0
HasViewed m s = (machine : Machine) × IsViewOf m machine × (s ≡ Table machine)

-- what came of the reading of an acceptor file
pub record HasReadAcceptor (name : List ℕ) (files_before files_now : FilesState) (result : Result System (ReadStop AcceptorFault)) : Type 0 where
  pub ok : IfOk result (SaysAcceptorSystem (setup.Table name) files_before.holds files_before.reads files_now.reads)
  pub made : OnOk result (MadeReads files_before files_now [])
  pub quiet : OnOk result (files_now.faults ≡ files_before.faults)
  pub err : IfErr result (IsNotRead IsAcceptorFile IsAcceptorFault name files_before files_now)
  pub grown : (more : List File) × (files_now.reads ≡ files_before.reads ++ more)
  pub same : files_now.holds ≡ files_before.holds
  pub counts : files_before.faults ≤ files_now.faults

-- the children of a command are asked for an acceptor, or `?` can't stand beside its inputs
abbrev pub HasAskedCommand : Command → Result System AcceptorFault → Type 0
HasAskedCommand c (Ok s) = AreAcceptorLetters c.inputs × (s ≡ Children (asked_command c))
HasAskedCommand c (Err fault) = HaveNoRoom c.inputs fault

-- why a setup says no system
abbrev pub SaysNone : Setup → FilesState → FilesState → AcceptorStop → Type 0
SaysNone v files_before files_now (stop.Setup why) = ⊥
SaysNone v files_before files_now (stop.Table why) = (table : List ℕ) × (v ≡ setup.Table table) × IsNotRead IsAcceptorFile IsAcceptorFault table files_before files_now why
SaysNone v files_before files_now (stop.Letters fault) =
    (c : Command) × (v ≡ setup.Command c) × HaveNoRoom c.inputs fault × (fault ≢ NoMemory) × (files_now ≡ files_before)
SaysNone v files_before files_now stop.NoMemory = (c : Command) × (v ≡ setup.Command c) × AreAcceptorLetters c.inputs × (files_now ≡ files_before)

-- what came of the reading of what a setup says
pub record HasSaidAcceptor (v : Setup) (files_before files_now : FilesState) (result : Result System AcceptorStop) : Type 0 where
  pub ok : IfOk result (SaysAcceptorSystem v files_before.holds files_before.reads files_now.reads)
  pub words : IfOk result HasWords
  pub made : OnOk result (MadeReads files_before files_now [])
  pub quiet : OnOk result (files_now.faults ≡ files_before.faults)
  pub err : IfErr result (SaysNone v files_before files_now)
  pub grown : (more : List File) × (files_now.reads ≡ files_before.reads ++ more)
  pub same : files_now.holds ≡ files_before.holds
  pub counts : files_before.faults ≤ files_now.faults

-- what came of the reading of an acceptor file, as the file of a system
pub record HasSaidTable (name : List ℕ) (files_before files_now : FilesState) (result : Result System AcceptorStop) : Type 0 where
  pub ok : IfOk result (SaysAcceptorSystem (setup.Table name) files_before.holds files_before.reads files_now.reads)
  pub words : IfOk result HasWords
  pub made : OnOk result (MadeReads files_before files_now [])
  pub quiet : OnOk result (files_now.faults ≡ files_before.faults)
  pub err : IfErr result (λ why. (unread : ReadStop AcceptorFault) × (why ≡ stop.Table unread) × IsNotRead IsAcceptorFile IsAcceptorFault name files_before files_now unread)
  pub grown : (more : List File) × (files_now.reads ≡ files_before.reads ++ more)
  pub same : files_now.holds ≡ files_before.holds
  pub counts : files_before.faults ≤ files_now.faults

-- out of memory is no fault of the letters
abbrev pub letters_stop : AcceptorFault → AcceptorStop
letters_stop NoMemory = stop.NoMemory
letters_stop fault = stop.Letters fault
