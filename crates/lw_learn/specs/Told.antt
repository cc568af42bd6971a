-- Files whose contents are observed: which outcomes a call of `learn` may have by them.
use Rattle.std.specs.Prelude.{◌≡◌, ℕ, List, Option, Some, None}
use Rattle.lw_words.specs.Cause.{CountedFault}
use Rattle.lw_accept.specs.AcceptorFile.{AreAcceptorLetters}
use Rattle.lw_json.specs.Formats.{IsAnswersFile, IsMachineFile}
use Rattle.lw_json.specs.SetupFile.{IsSetupFile}
use Rattle.lw_json.specs.declared.files.Answers.{Answers}
use Rattle.lw_json.specs.declared.files.Machine.{Machine}
use Rattle.lw_json.specs.declared.setup.Setup.{Setup}
use Rattle.lw_json.specs.declared.setup.Setup.TheVariants as setup
use Rattle.lw_outside.specs.Files.{File, FilesState}
use Rattle.lw_outside.specs.Links.{SpawnerState}
use Rattle.lw_outside.specs.Streams.{SinkState}
use Rattle.lw_system.specs.Reading.{TellsBad, TellsFile}
use Rattle.lw_report.specs.declared.«end».End.{End}
use Rattle.lw_report.specs.declared.outcome.Outcome.{Outcome}
use Rattle.lw_report.specs.declared.outcome.Outcome.TheVariants.{NoMemory, Nondeterministic}
use Rattle.lw_learn.specs.Arguments.{LearnValues}
use Rattle.lw_learn.specs.Asking.{IsWordsFile}
use Rattle.lw_learn.specs.Ending.{EndsRead, EndsUnread}
use Rattle.lw_system.specs.AcceptorSystems.{IsViewFile, asked_command}
use Rattle.lw_system.specs.Goals.{IsModelFile}
use Rattle.lw_system.specs.Systems.{FitsSystem, letters_of}
use Rattle.lw_system.specs.declared.goal.Goal.{Goal}
use Rattle.lw_system.specs.declared.goal.Goal.TheVariants as aim
use Rattle.lw_system.specs.declared.source.Source.{Source}
use Rattle.lw_system.specs.declared.source.Source.TheVariants as source
use Rattle.lw_system.specs.declared.system.System.{System}
use Rattle.lw_system.specs.declared.system.System.TheVariants.{Table, Children}

-- the files tell the system that a setup says
abbrev pub TellsSetup : Setup → Option (List File) → System → Type 0
TellsSetup (setup.Table name) holds s = (m : Machine) × TellsFile IsMachineFile holds name m × (s ≡ Table m)
TellsSetup (setup.Command c) holds s = s ≡ Children c

-- they tell the system of this kind of file under this name
abbrev pub TellsSystem : Source → List ℕ → Option (List File) → System → Type 0
TellsSystem source.Table name holds s = (m : Machine) × TellsFile IsMachineFile holds name m × (s ≡ Table m)
TellsSystem source.Setup name holds s = (v : Setup) × TellsFile IsSetupFile holds name v × TellsSetup v holds s

-- the same of a system that is asked for an acceptor: the machine of an acceptor, or children
abbrev pub TellsAsked : Setup → Option (List File) → System → Type 0
TellsAsked (setup.Table name) holds s = (machine : Machine) × TellsFile IsViewFile holds name machine × (s ≡ Table machine)
TellsAsked (setup.Command c) holds s = AreAcceptorLetters c.inputs × (s ≡ Children (asked_command c))

abbrev pub TellsAskedSystem : Source → List ℕ → Option (List File) → System → Type 0
TellsAskedSystem source.Table name holds s = TellsAsked (setup.Table name) holds s
TellsAskedSystem source.Setup name holds s = (v : Setup) × TellsFile IsSetupFile holds name v × TellsAsked v holds s

-- by what is to be learned
abbrev pub TellsSystemFor : Goal → Source → List ℕ → Option (List File) → System → Type 0
TellsSystemFor aim.Machine kind name holds s = TellsSystem kind name holds s
TellsSystemFor aim.Acceptor kind name holds s = TellsAskedSystem kind name holds s

-- they tell prior answers that fit it, where some are named
abbrev pub TellsPrior : Option (List ℕ) → Option (List File) → System → Type 0
TellsPrior None holds s = Unit {0}
TellsPrior (Some name) holds s = (p : Answers) × TellsFile IsAnswersFile holds name p × FitsSystem p s

-- they tell words over the letters, where a file of words is named
abbrev pub TellsWords : Option (List ℕ) → Option (List File) → (letters : List (List ℕ)) → Type 0
TellsWords None holds letters = Unit {0}
TellsWords (Some name) holds letters = (words : List (List ℕ)) × TellsFile (IsWordsFile letters) holds name words

pub record TellsTask (a : LearnValues) (holds : Option (List File)) (s : System) : Type 0 where
  pub system : TellsSystemFor a.goal a.source a.system holds s
  pub prior : TellsPrior a.prior holds s
  pub words : TellsWords a.words holds (letters_of s)

-- the file of the system is observed to be too long or of no system
abbrev pub TellsNoSystem : Source → Goal → List ℕ → Option (List File) → Type 0
TellsNoSystem source.Table goal name holds = TellsBad (IsModelFile goal) holds name
TellsNoSystem source.Setup goal name holds = TellsBad IsSetupFile holds name

-- no file is refused, and no names differ
abbrev pub IsNoRefusal : Outcome → Type 0
IsNoRefusal NoMemory = Unit {0}
IsNoRefusal (Nondeterministic clash) = Unit {0}
IsNoRefusal _ = ⊥

-- where the files tell a system, fitting prior answers and words over its letters, and count no fault, the system is learned, but
-- that two prior answers may clash or memory run out
abbrev pub ToldIsLearned : Type 0
ToldIsLearned = (a : LearnValues) (files_before files_now : FilesState) (spawner_before spawner_now : SpawnerState) (out_before out_now err_before err_now : SinkState) (end : End) (s : System)
    → TellsTask a files_before.holds s → ¬ CountedFault files_before.faults files_now.faults
    → EndsUnread a files_before files_now spawner_before spawner_now out_before out_now err_before err_now end → IsNoRefusal end.outcome

-- where the file of the system is observed to be of none, none is learned
abbrev pub BadIsRefused : Type 0
BadIsRefused = (a : LearnValues) (files_before files_now : FilesState) (spawner_before spawner_now : SpawnerState) (out_before out_now err_before err_now : SinkState) (end : End)
    → TellsNoSystem a.source a.goal a.system files_before.holds → EndsRead a files_before files_now spawner_before spawner_now out_before out_now err_before err_now end → ⊥
