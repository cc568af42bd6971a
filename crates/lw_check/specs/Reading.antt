-- What the command read: the model file, then the answers file.
use Rattle.std.specs.Prelude.{◌≡◌, ◌⊎◌, ℕ, List, Bool, true, false, Option}
use Rattle.lw_words.specs.Cause.{CountedFault}
use Rattle.lw_accept.specs.AcceptorFile.{IsAcceptorFault}
use Rattle.lw_json.specs.AnswersFault.{IsAnswersFault}
use Rattle.lw_json.specs.Formats.{IsAnswersFile, IsMachineFile}
use Rattle.lw_json.specs.MachineFault.{IsMachineFault}
use Rattle.lw_json.specs.declared.files.Machine.{Machine}
use Rattle.lw_json.specs.declared.files.Answers.{Answers}
use Rattle.lw_outside.specs.Files.{Call, File, HoldsLong, noted, read_call, FilesState, ReadsFile}
use Rattle.lw_system.specs.AcceptorSystems.{IsViewFile}
use Rattle.lw_system.specs.Goals.{IsModelFile}
use Rattle.lw_system.specs.Reading.{ReadsBadFile}
use Rattle.lw_system.specs.declared.goal.Goal.{Goal}
use Rattle.lw_system.specs.declared.goal.Goal.TheVariants as goal
use Rattle.lw_report.specs.declared.role.Role.TheVariants.{Model, Answers as Answered}
use Rattle.lw_report.specs.declared.outcome.Outcome.{Outcome}
use Rattle.lw_report.specs.declared.outcome.Outcome.TheVariants.{BadAcceptor, BadFile, FileTooLong, FileFault, NoMemory}
use Rattle.lw_check.specs.Decision.{Pair, pair_of}

-- the calls after the read of the model, and after that of the answers, which failed or not
abbrev pub model_read : List ℕ → Bool → FilesState → Option (List Call)
model_read model failed before = noted (read_call model failed) before.calls

abbrev pub answers_read : List ℕ → List ℕ → Bool → FilesState → Option (List Call)
answers_read model answers failed before = noted (read_call answers failed) (model_read model false before)

-- one read gave the file of a model: a machine's, or an acceptor's, and then the model is the machine that is asked in its place
abbrev pub ReadsModel : Goal → List ℕ → FilesState → List File → Type 0
ReadsModel aim model before reads = (m : Machine) × ReadsFile (IsModelFile aim) model before.holds before.reads reads m

-- one read gave the file of a model, and a second one the file of answers, and the files counted no fault
pub record ReadsPair (aim : Goal) (model answers : List ℕ) (before now : FilesState) (p : Pair) : Type 0 where
  pub machine : Machine
  pub read_answers : Answers
  pub middle : List File
  pub model_file : ReadsFile (IsModelFile aim) model before.holds before.reads middle machine
  pub answers_file : ReadsFile IsAnswersFile answers before.holds middle now.reads read_answers
  pub pair : p ≡ pair_of machine read_answers
  pub calls : now.calls ≡ answers_read model answers false before
  pub quiet : now.faults ≡ before.faults

-- why no pair was read; a fault of the model's file is one of a machine file or of an acceptor file, by what the model file is of
abbrev pub IsUnread : Goal → List ℕ → List ℕ → FilesState → FilesState → Outcome → Type 0
IsUnread aim model answers before now (BadFile Model fault) =
    ReadsBadFile IsMachineFile IsMachineFault model before.holds before.reads now.reads fault × (now.calls ≡ model_read model false before) × (aim ≡ goal.Machine)
IsUnread aim model answers before now (BadAcceptor fault) =
    ReadsBadFile IsViewFile IsAcceptorFault model before.holds before.reads now.reads fault × (now.calls ≡ model_read model false before) × (aim ≡ goal.Acceptor)
IsUnread aim model answers before now (BadFile Answered fault) =
    ((middle : List File) × (m : Machine) × ReadsFile (IsModelFile aim) model before.holds before.reads middle m × ReadsBadFile IsAnswersFile IsAnswersFault answers before.holds middle now.reads fault)
    × (now.calls ≡ answers_read model answers false before)
IsUnread aim model answers before now (FileTooLong Model) = HoldsLong before.holds model × (now.calls ≡ model_read model false before) × (now.reads ≡ before.reads)
IsUnread aim model answers before now (FileTooLong Answered) = HoldsLong before.holds answers × (now.calls ≡ answers_read model answers false before) × ReadsModel aim model before now.reads
IsUnread aim model answers before now (FileFault Model) = CountedFault before.faults now.faults × (now.calls ≡ model_read model true before) × (now.reads ≡ before.reads)
IsUnread aim model answers before now (FileFault Answered) = CountedFault before.faults now.faults × (now.calls ≡ answers_read model answers true before) × ReadsModel aim model before now.reads
IsUnread aim model answers before now NoMemory = (now.calls ≡ before.calls) ⊎ ((now.calls ≡ model_read model false before) ⊎ (now.calls ≡ answers_read model answers false before))
IsUnread aim model answers before now _ = ⊥
