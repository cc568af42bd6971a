-- Why a call of `learn` began no learning: what it read before that, and what it made of it.
use Rattle.std.specs.Prelude.{◌≡◌, ◌⊎◌, ℕ, List, [], ◌∷◌, true, false, Option, Some, None, option_map}
use Rattle.lw_words.specs.Word.{answers_of}
use Rattle.lw_words.specs.Cause.{CountedFault}
use Rattle.lw_words.specs.declared.kept.KeptAnswer.{KeptAnswer}
use Rattle.lw_names.specs.Naming.{Naming}
use Rattle.lw_accept.specs.AcceptorFile.{IsAcceptorFault, IsAcceptorFile}
use Rattle.lw_accept.specs.declared.fault.AcceptorFault.{AcceptorFault}
use Rattle.lw_json.specs.AnswersFault.{IsAnswersFault}
use Rattle.lw_json.specs.Formats.{IsAnswersFile, IsMachineFile}
use Rattle.lw_json.specs.MachineFault.{IsMachineFault}
use Rattle.lw_json.specs.SetupFile.{IsSetupFault, IsSetupFile}
use Rattle.lw_json.specs.declared.files.Answers.{Answers}
use Rattle.lw_json.specs.declared.fault.JsonFault.{JsonFault}
use Rattle.lw_json.specs.declared.setup.Setup.TheVariants as setup
use Rattle.lw_outside.specs.Files.{File, HoldsLong, read_call, FilesState, ReadsFile}
use Rattle.lw_cache.specs.FirstClash.{IsFirstClash}
use Rattle.lw_system.specs.Reading.{ReadsBadFile}
use Rattle.lw_report.specs.declared.outcome.Outcome.{Outcome}
use Rattle.lw_report.specs.declared.outcome.Outcome.TheVariants.{Alphabets, BadAcceptor, BadFile, FileFault, FileTooLong, NoMemory, Nondeterministic}
use Rattle.lw_report.specs.declared.role.Role.{Role}
use Rattle.lw_report.specs.declared.role.Role.TheVariants as role
use Rattle.lw_learn.specs.Arguments.{LearnValues}
use Rattle.lw_system.specs.Reads.{MadeReads, MadeSomeReads}
use Rattle.lw_learn.specs.Tasks.{ReadsTask}
use Rattle.lw_system.specs.AcceptorFinding.{HasNoRoomFor}
use Rattle.lw_system.specs.Goals.{ReadsSystemFor}
use Rattle.lw_system.specs.Systems.{FitsSystem, declared_of}
use Rattle.lw_system.specs.declared.goal.Goal.{Goal}
use Rattle.lw_system.specs.declared.goal.Goal.TheVariants as aim
use Rattle.lw_system.specs.declared.source.Source.{Source}
use Rattle.lw_system.specs.declared.source.Source.TheVariants as source
use Rattle.lw_system.specs.declared.system.System.{System}

-- a table file of this name is read next
abbrev pub IsTableNext : Source → List ℕ → Option (List File) → List File → List File → List ℕ → Type 0
IsTableNext source.Table system holds before now name = (name ≡ system) × (now ≡ before)
IsTableNext source.Setup system holds before now name = ReadsFile IsSetupFile system holds before now (setup.Table name)

-- the file in a role has this name and is read next, once those reads were made and perhaps a system read
abbrev pub IsNext : LearnValues → Option (List File) → List File → List File → Role → List ℕ → Option System → Type 0
IsNext a holds before now role.Setup name read = (a.source ≡ source.Setup) × (name ≡ a.system) × (now ≡ before) × (read ≡ None)
IsNext a holds before now role.Table name read = IsTableNext a.source a.system holds before now name × (read ≡ None)
IsNext a holds before now role.Prior name read = (a.prior ≡ Some name) × ((s : System) × (read ≡ Some s) × ReadsSystemFor a.goal a.source a.system holds before now s)
IsNext a holds before now role.Model name read = ⊥
IsNext a holds before now role.Answers name read = ⊥
IsNext a holds before now role.Second name read = ⊥
IsNext a holds before now role.Words name read = ⊥
IsNext a holds before now role.Kept name read = ⊥
IsNext a holds before now role.Last name read = ⊥

-- the bytes that were read of the file in a role have this first fault; an acceptor's file has others
abbrev pub ReadsBad : Role → Goal → List ℕ → Option (List File) → List File → List File → JsonFault → Type 0
ReadsBad role.Setup goal name holds before after fault = ReadsBadFile IsSetupFile IsSetupFault name holds before after fault
ReadsBad role.Table aim.Machine name holds before after fault = ReadsBadFile IsMachineFile IsMachineFault name holds before after fault
ReadsBad role.Table aim.Acceptor name holds before after fault = ⊥
ReadsBad role.Prior goal name holds before after fault = ReadsBadFile IsAnswersFile IsAnswersFault name holds before after fault
ReadsBad role.Model goal name holds before after fault = ⊥
ReadsBad role.Answers goal name holds before after fault = ⊥
ReadsBad role.Second goal name holds before after fault = ⊥
ReadsBad role.Words goal name holds before after fault = ⊥
ReadsBad role.Kept goal name holds before after fault = ⊥
ReadsBad role.Last goal name holds before after fault = ⊥

-- the bytes that were read of an acceptor file have this first fault
pub record ReadsBadAcceptor (a : LearnValues) (files_before files_now : FilesState) (fault : AcceptorFault) : Type 0 where
  pub before : List File
  pub name : List ℕ
  pub next : IsTableNext a.source a.system files_before.holds files_before.reads before name
  pub bad : ReadsBadFile IsAcceptorFile IsAcceptorFault name files_before.holds before files_now.reads fault

-- an acceptor is to be learned, and its file is none; or the setup has a command, beside whose inputs `?` can't stand
pub record IsBadAcceptor (a : LearnValues) (files_before files_now : FilesState) (fault : AcceptorFault) : Type 0 where
  pub goal : a.goal ≡ aim.Acceptor
  pub cause : ReadsBadAcceptor a files_before files_now fault ⊎
      ((a.source ≡ source.Setup) × HasNoRoomFor a.system files_before files_now fault)

-- why no learning began, by the outcome: what it read, whether it read a system, and what it kept
abbrev pub IsUnreadBy : LearnValues → FilesState → FilesState → Option System → List KeptAnswer → Outcome → Type 0
IsUnreadBy a files_before files_now read kept (BadFile r fault) =
    (now : List File) × (name : List ℕ) × IsNext a files_before.holds files_before.reads now r name read × ReadsBad r a.goal name files_before.holds now files_now.reads fault × MadeReads files_before files_now [] × (kept ≡ [])
IsUnreadBy a files_before files_now read kept (BadAcceptor fault) = IsBadAcceptor a files_before files_now fault × MadeReads files_before files_now [] × (read ≡ None) × (kept ≡ [])
IsUnreadBy a files_before files_now read kept (FileTooLong r) = (name : List ℕ) × IsNext a files_before.holds files_before.reads files_now.reads r name read × HoldsLong files_before.holds name × MadeReads files_before files_now (read_call name false ∷ []) × (kept ≡ [])
IsUnreadBy a files_before files_now read kept (FileFault r) =
    (name : List ℕ) × IsNext a files_before.holds files_before.reads files_now.reads r name read × CountedFault files_before.faults files_now.faults × MadeReads files_before files_now (read_call name true ∷ []) × (kept ≡ [])
IsUnreadBy a files_before files_now read kept (Alphabets r) =
    (r ≡ role.Prior)
    × ((now : List File)
    × (name : List ℕ)
    × (s : System)
    × (p : Answers)
    × IsNext a files_before.holds files_before.reads now role.Prior name read
    × (read ≡ Some s)
    × ReadsFile IsAnswersFile name files_before.holds now files_now.reads p
    × (¬ FitsSystem p s))
    × MadeReads files_before files_now []
    × (kept ≡ [])
IsUnreadBy a files_before files_now read kept (Nondeterministic clash) =
    (s : System) × (read ≡ Some s) × ReadsTask a files_before.holds files_before.reads files_now.reads s kept × IsFirstClash (answers_of kept) clash × MadeReads files_before files_now []
IsUnreadBy a files_before files_now read kept NoMemory = MadeSomeReads files_before files_now × (kept ≡ []) × (read ≡ None)
IsUnreadBy a files_before files_now read kept _ = ⊥

-- the same; or memory ran out in place of that, and the same is kept
abbrev pub IsUnreadAs : LearnValues → FilesState → FilesState → Option System → List KeptAnswer → Outcome → Type 0
IsUnreadAs a files_before files_now read kept outcome =
    IsUnreadBy a files_before files_now read kept outcome
    ⊎ ((outcome ≡ NoMemory) × ((why : Outcome) × IsUnreadBy a files_before files_now read kept why))

-- the declared names of a system that was read
abbrev pub names_read : Option System → Option Naming
names_read None = None
names_read (Some s) = option_map (λ names. record { names = names; brought = None }) (declared_of s)
