-- What `learn` writes: to files, to `out` and to `err`.
use Rattle.std.specs.Prelude.{◌≡◌, ◌≢◌, ◌⊎◌, ℕ, List, [], Option, Some, None}
use Rattle.lw_words.specs.Cause.{CountedFault}
use Rattle.lw_words.specs.declared.kept.KeptAnswer.{KeptAnswer}
use Rattle.lw_mealy.specs.Machine.{MealyMachine}
use Rattle.lw_accept.specs.Acceptor.{IsNamedAcceptor, NamedAcceptor}
use Rattle.lw_accept.specs.AcceptorText.{acceptor_written}
use Rattle.lw_json.specs.AnswersText.{IsAnswersText}
use Rattle.lw_json.specs.MachineText.{written_text}
use Rattle.lw_json.specs.declared.files.Machine.{Machine}
use Rattle.lw_learn.specs.Arguments.{LearnValues}
use Rattle.lw_learn.specs.Calls.{MadeWrites}
use Rattle.lw_learn.specs.Outcomes.{HasFiles, HasModelFile, IsBeforeOut, IsBehindOut, told_of}
use Rattle.lw_outside.specs.Files.{Call, File, FilesState, Holds, file_at}
use Rattle.lw_outside.specs.Streams.{SinkState}
use Rattle.lw_report.specs.Text.{text_of}
use Rattle.lw_report.specs.Writing.{TakesAll, TakesSome}
use Rattle.lw_report.specs.declared.outcome.Outcome.{Outcome}
use Rattle.lw_report.specs.declared.outcome.Outcome.TheVariants.{NoMemory, NotAcceptor, SinkFault}
use Rattle.lw_report.specs.declared.role.Role.{Role}
use Rattle.lw_system.specs.AcceptorSystems.{IsViewOf}
use Rattle.lw_system.specs.declared.goal.Goal.{Goal}
use Rattle.lw_system.specs.declared.goal.Goal.TheVariants as aim
use Rattle.lw_report.specs.declared.role.Role.TheVariants.{Answers, Kept, Model}

-- the text goes to the stream where no file is named for it, and nothing does where one is
abbrev pub PutsAll : Option (List ℕ) → List ℕ → Option (List ℕ) → Option (List ℕ) → Type 0
PutsAll None text before now = TakesAll text before now
PutsAll (Some name) text before now = now ≡ before

abbrev pub PutsSome : Option (List ℕ) → List ℕ → Option (List ℕ) → Option (List ℕ) → Type 0
PutsSome None text before now = TakesSome text before now
PutsSome (Some name) text before now = now ≡ before

-- the bytes stand in the file, where one is named
abbrev pub StandsInFile : Option (List ℕ) → Option (List File) → List ℕ → Type 0
StandsInFile None holds bytes = Unit {0}
StandsInFile (Some name) holds bytes = Holds holds name bytes

-- a text of the recorded answers under the names of the machine stands in the file, where one is named
abbrev pub AnswersStand : Option (List ℕ) → Option (List File) → Machine → List KeptAnswer → Type 0
AnswersStand None holds m kept = Unit {0}
AnswersStand (Some name) holds m kept = (text : List ℕ) × IsAnswersText m.inputs m.outputs kept text × Holds holds name text

-- what became of the files that are named, by the outcome: the model's file stands, but for a later write under its name; the
-- answers' file stands; and the calls were these
pub record WritesFiles (a : LearnValues) (text : List ℕ) (m : Machine) (kept : List KeptAnswer) (outcome : Outcome) (holds : Option (List File)) (made : Option (List Call) × Option (List Call)) : Type 0 where
  pub model : HasModelFile outcome → a.model ≢ a.answers → StandsInFile a.model holds text
  pub answers : HasFiles outcome → AnswersStand a.answers holds m kept
  pub calls : MadeWrites a outcome made.0 made.1

-- what became of the text that goes to `out` where no file is named for it, by the outcome: all of it was put where the model
-- or a fault of the recorded answers' file is reported, and where `out` counted no fault though a stream did; some in
-- any case; none where the files weren't written
pub record WritesOut (file : Option (List ℕ)) (text : List ℕ) (outcome : Outcome) (taken : Option (List ℕ) × Option (List ℕ)) (faults : ℕ × ℕ) : Type 0 where
  pub told : IsBehindOut outcome → PutsAll file text taken.0 taken.1
  pub whole : outcome ≡ SinkFault → ¬ CountedFault faults.0 faults.1 →
      PutsAll file text taken.0 taken.1
  pub part : PutsSome file text taken.0 taken.1
  pub before : IsBeforeOut outcome → taken.1 ≡ taken.0

-- what is observed of the files beside those that are named stays
abbrev pub StaysBesides : (model answers kept : Option (List ℕ)) → Option (List File) → Option (List File) → Type 0
StaysBesides model answers kept None after = after ≡ None
StaysBesides model answers kept (Some fs) after =
    (gs : List File) × (after ≡ Some gs) × ((other : List ℕ) → model ≢ Some other → answers ≢ Some other → kept ≢ Some other → file_at other gs ≡ file_at other fs)

-- the text of a machine that was learned, or of the acceptor in whose place it was
abbrev pub IsModelText : Goal → Machine → List ℕ → Type 0
IsModelText aim.Machine m text = text ≡ written_text m
IsModelText aim.Acceptor m text = (acceptor : NamedAcceptor) × IsNamedAcceptor acceptor × IsViewOf acceptor m × (text ≡ acceptor_written acceptor)

-- the same, but where there was no memory for a text, or the machine is no acceptor's
abbrev pub HasModelText : Outcome → Goal → Machine → List ℕ → Type 0
HasModelText outcome goal m text = outcome ≢ NoMemory → ((state letter : ℕ) → outcome ≢ NotAcceptor state letter) → IsModelText goal m text

-- a model under these names is written out, by the outcome
pub record WritesModel (a : LearnValues) (kept : List KeptAnswer) (outcome : Outcome) (holds : Option (List File)) (taken : Option (List ℕ) × Option (List ℕ)) (faults : ℕ × ℕ) (inputs outputs : List (List ℕ)) (h : MealyMachine) : Type 0 where
  pub model : Machine
  pub inputs_are : model.inputs ≡ inputs
  pub outputs_are : model.outputs ≡ outputs
  pub mealy : model.mealy ≡ h
  pub text : List ℕ
  pub text_is : HasModelText outcome a.goal model text
  pub file : HasModelFile outcome → a.model ≢ a.answers → StandsInFile a.model holds text
  pub answers : HasFiles outcome → AnswersStand a.answers holds model kept
  pub out : WritesOut a.model text outcome taken faults

-- the text of an outcome under a machine's names
abbrev pub told_text : Machine → List KeptAnswer → ℕ → Outcome → List ℕ
told_text m kept extra outcome = text_of m.inputs m.outputs kept extra outcome

-- the file in this role is one that the call writes: a file for the model, or for the answers, is named; or it is the
-- recorded answers'
abbrev pub IsWritable : LearnValues → Role → Type 0
IsWritable a role = ((role ≡ Model) × (a.model ≢ None)) ⊎ (((role ≡ Answers) × (a.answers ≢ None)) ⊎ (role ≡ Kept))

-- the line about a model, or nothing where there is none
abbrev pub model_line : Goal → (inputs outputs : List (List ℕ)) → List KeptAnswer → ℕ → Option MealyMachine → ℕ → List ℕ
model_line goal inputs outputs kept extra None refinements = []
model_line goal inputs outputs kept extra (Some h) refinements = text_of inputs outputs kept extra (told_of goal h refinements)

-- no count of faults rose, of the files, the output and the error stream
abbrev pub CountsStay : (files_before files_now : FilesState) (out_before out_now err_before err_now : SinkState) → Type 0
CountsStay files_before files_now out_before out_now err_before err_now =
    (files_now.faults ≡ files_before.faults) × (out_now.faults ≡ out_before.faults) × (err_now.faults ≡ err_before.faults)

-- one text was taken in part, then the other
pub record TakesInTurn (first second : List ℕ) (before now : Option (List ℕ)) : Type 0 where
  pub between : Option (List ℕ)
  pub some : TakesSome first before between
  pub then : TakesSome second between now

-- no object outside counted a fault: the files, the output and the error stream, each with its count before and now
pub record NothingFailed (files out err : ℕ × ℕ) : Type 0 where
  pub of_files : ¬ CountedFault files.0 files.1
  pub of_out : ¬ CountedFault out.0 out.1
  pub of_err : ¬ CountedFault err.0 err.1
