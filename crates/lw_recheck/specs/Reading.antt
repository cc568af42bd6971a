-- The reading of a setup, of the table file that it names, and of the answers that are asked again.
use Rattle.std.specs.Prelude.{◌≡◌, ◌⊎◌, ℕ, ◌≤◌, List, [], Option, Result, IfOk, IfErr, OnOk}
use Rattle.lw_json.specs.AnswersFault.{IsAnswersFault}
use Rattle.lw_json.specs.Formats.{IsAnswersFile}
use Rattle.lw_json.specs.declared.files.Answers.{Answers}
use Rattle.lw_outside.specs.Files.{File, FilesState, ReadsFile}
use Rattle.lw_system.specs.Finding.{IsNoSystem}
use Rattle.lw_system.specs.declared.stops.SystemStop.{SystemStop}
use Rattle.lw_report.specs.Stops.{unread_outcome}
use Rattle.lw_report.specs.declared.outcome.Outcome.{Outcome}
use Rattle.lw_report.specs.declared.outcome.Outcome.TheVariants.{Alphabets}
use Rattle.lw_report.specs.declared.role.Role.TheVariants as role
use Rattle.lw_system.specs.Systems.{FitsSystem, ReadsSystem}
use Rattle.lw_report.specs.Refused.{IsRefused}
use Rattle.lw_system.specs.Reads.{MadeReads}
use Rattle.lw_system.specs.declared.source.Source.TheVariants as source
use Rattle.lw_system.specs.declared.system.System.{System}
use Rattle.lw_recheck.specs.declared.reading.Task.{Task}

-- the files say a system, by reads of which none failed
pub record IsBehind (setup : List ℕ) (files_before files_now : FilesState) (system : System) : Type 0 where
  pub reads : ReadsSystem source.Setup setup files_before.holds files_before.reads files_now.reads system
  pub made : MadeReads files_before files_now []
  pub quiet : files_now.faults ≡ files_before.faults
  pub same : files_now.holds ≡ files_before.holds

-- the files say no system
pub record ReadsNoSystem (setup : List ℕ) (files_before files_now : FilesState) (outcome : Outcome) : Type 0 where
  pub stop : SystemStop
  pub comes_to : outcome ≡ unread_outcome stop
  pub unread : IsNoSystem source.Setup setup files_before files_now stop

-- a system was read, and then the answers file refused
pub record HasNoAnswers (setup answers : List ℕ) (files_before files_now : FilesState) (outcome : Outcome) : Type 0 where
  pub between : FilesState
  pub system : System
  pub behind : IsBehind setup files_before between system
  pub refused : IsRefused IsAnswersFile IsAnswersFault role.Prior answers between files_now outcome

-- both were read, and the names of the answers aren't the system's
pub record HasOtherNames (setup answers : List ℕ) (files_before files_now : FilesState) (outcome : Outcome) : Type 0 where
  pub between : FilesState
  pub system : System
  pub behind : IsBehind setup files_before between system
  pub read : Answers
  pub file : ReadsFile IsAnswersFile answers between.holds between.reads files_now.reads read
  pub made : MadeReads between files_now []
  pub quiet : files_now.faults ≡ between.faults
  pub unfit : ¬ FitsSystem read system
  pub alphabets : outcome ≡ Alphabets role.Prior

-- why nothing is asked
abbrev pub IsUnread : (setup answers : List ℕ) → FilesState → FilesState → Outcome → Type 0
IsUnread setup answers files_before files_now outcome = ReadsNoSystem setup files_before files_now outcome ⊎ (HasNoAnswers setup answers files_before files_now outcome ⊎ HasOtherNames setup answers files_before files_now outcome)

-- the bytes that were read say a system and answers over its names
pub record ReadsBoth (setup answers : List ℕ) (holds : Option (List File)) (before after : List File) (system : System) (read : Answers) : Type 0 where
  pub between : List File
  pub reads : ReadsSystem source.Setup setup holds before between system
  pub file : ReadsFile IsAnswersFile answers holds between after read
  pub fits : FitsSystem read system

-- what came of the reading
pub record HasReadBoth (setup answers : List ℕ) (files_before files_now : FilesState) (result : Result Task Outcome) : Type 0 where
  pub ok : IfOk result (λ t. ReadsBoth setup answers files_before.holds files_before.reads files_now.reads t.system t.answers)
  pub made : OnOk result (MadeReads files_before files_now [])
  pub quiet : OnOk result (files_now.faults ≡ files_before.faults)
  pub err : IfErr result (IsUnread setup answers files_before files_now)
  pub same : files_now.holds ≡ files_before.holds
  pub counts : files_before.faults ≤ files_now.faults
