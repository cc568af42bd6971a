-- The files that a call of `learn` writes are probed once all is read; where a probe fails no child is started.
use Rattle.std.specs.Prelude.{◌≡◌, ◌⊎◌, ℕ, List, [], ◌∷◌, ◌++◌, true, false, Option, Some, None}
use Rattle.lw_words.specs.Cause.{CountedFault}
use Rattle.lw_words.specs.declared.kept.KeptAnswer.{KeptAnswer}
use Rattle.lw_outside.specs.Files.{Call, File, FilesState, probe_call}
use Rattle.lw_report.specs.declared.outcome.Outcome.{Outcome}
use Rattle.lw_report.specs.declared.outcome.Outcome.TheVariants.{FileFault, NoMemory}
use Rattle.lw_report.specs.declared.role.Role.{Role}
use Rattle.lw_report.specs.declared.role.Role.TheVariants.{Answers, Kept, Last, Model}
use Rattle.lw_learn.specs.Arguments.{LearnValues}
use Rattle.lw_learn.specs.Asking.{SaysWords}
use Rattle.lw_learn.specs.Tasks.{ReadsTask}
use Rattle.lw_system.specs.Reads.{MadeReads, gained}
use Rattle.lw_system.specs.Systems.{letters_of}
use Rattle.lw_system.specs.declared.system.System.{System}

-- a file that is written: its role, and its name where one is named
abbrev pub Written : Type 0
Written = Role × Option (List ℕ)

-- in the order in which they are written
abbrev pub written_files : LearnValues → List Written
written_files a = (Last, a.last) ∷ (Kept, a.kept) ∷ (Model, a.model) ∷ (Answers, a.answers) ∷ []

-- the probes of files where none fails, of those that are named
abbrev pub probes_before : Option (List ℕ) → List Call → List Call
probes_before None later = later
probes_before (Some name) later = probe_call name false ∷ later

abbrev pub probes_of : List Written → List Call
probes_of [] = []
probes_of (f ∷ fs) = probes_before f.1 (probes_of fs)

-- the probe of the file in this role failed, and those of the files before it didn't
pub record FailsProbe (files : List Written) (before now : FilesState) (role : Role) : Type 0 where
  pub passed : List Written
  pub name : List ℕ
  pub later : List Written
  pub files_are : files ≡ passed ++ (role, Some name) ∷ later
  pub counted : CountedFault before.faults now.faults
  pub calls : now.calls ≡ gained (probes_of passed ++ probe_call name true ∷ []) before.calls

-- memory ran out after some probes, of which none failed
pub record WantsProbe (files : List Written) (before now : FilesState) : Type 0 where
  pub passed : List Written
  pub later : List Written
  pub files_are : files ≡ passed ++ later
  pub calls : now.calls ≡ gained (probes_of passed) before.calls

-- why not all files may be written, by the outcome
abbrev pub IsUnprobed : List Written → (before now : FilesState) → Outcome → Type 0
IsUnprobed files before now outcome = ((role : Role) × (outcome ≡ FileFault role) × FailsProbe files before now role) ⊎ ((outcome ≡ NoMemory) × WantsProbe files before now)

-- no learning began though the files said what is to be learned, and the words that are asked first, for a file can't be written,
-- as the outcome says, or memory ran out in place of that; nothing is kept
pub record IsUnwritable (a : LearnValues) (files_before files_now : FilesState) (read : Option System) (kept : List KeptAnswer) (outcome : Outcome) : Type 0 where
  pub system : System
  pub prior : List KeptAnswer
  pub words : List (List ℕ)
  pub between : List File
  pub middle : FilesState
  pub read_is : read ≡ Some system
  pub task : ReadsTask a files_before.holds files_before.reads between system prior
  pub asked : SaysWords a (letters_of system) files_before.holds between middle.reads words
  pub made : MadeReads files_before middle []
  pub quiet : middle.faults ≡ files_before.faults
  pub reads : files_now.reads ≡ middle.reads
  pub nothing : kept ≡ []
  pub why : Outcome
  pub because : IsUnprobed (written_files a) middle files_now why
  pub told : (outcome ≡ why) ⊎ (outcome ≡ NoMemory)
