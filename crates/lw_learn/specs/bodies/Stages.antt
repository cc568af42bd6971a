-- The outcomes of a step of the reading of a task.
use Rattle.std.specs.Prelude.{◌≡◌, ◌⊎◌, ℕ, ◌<◌, ◌≤◌, ◌^◌, List, [], length, Option, Some, None, Result, IfOk, IfErr, OnOk}
use Rattle.std.specs.List.{All}
use Rattle.std.specs.Str.Lossy.{utf8_lossy}
use Rattle.lw_words.specs.Word.{answers_of, IsWord}
use Rattle.lw_words.specs.declared.kept.KeptAnswer.{KeptAnswer}
use Rattle.lw_json.specs.AnswersFault.{IsAnswersFault}
use Rattle.lw_json.specs.Formats.{IsAnswersFile}
use Rattle.lw_json.specs.declared.files.Answers.{Answers}
use Rattle.lw_outside.specs.Files.{File, FilesState, ReadsFile}
use Rattle.lw_wordlist.specs.Lines.{lines_in}
use Rattle.lw_wordlist.specs.Words.{IsFirstUnknown}
use Rattle.lw_cache.specs.FirstClash.{IsFirstClash}
use Rattle.lw_prior.specs.Prior.{prior_answers}
use Rattle.lw_report.specs.declared.outcome.Outcome.{Outcome}
use Rattle.lw_report.specs.declared.outcome.Outcome.TheVariants.{Alphabets, NoMemory, Nondeterministic, UnknownLetter}
use Rattle.lw_report.specs.declared.role.Role.TheVariants.{Prior}
use Rattle.lw_learn.specs.Arguments.{LearnValues}
use Rattle.lw_learn.specs.Asking.{IsWordless, IsWordlessTask, ReadsWords, SaysWords}
use Rattle.lw_learn.specs.Tasks.{ReadsTask, with_outputs}
use Rattle.lw_system.specs.Goals.{IsSystemFor, ReadsSystemFor}
use Rattle.lw_system.specs.Systems.{FitsSystem, HasWords, declared_of, letters_of, or_these}
use Rattle.lw_learn.specs.Unread.{IsUnreadBy}
use Rattle.lw_report.specs.Refused.{IsRefused}
use Rattle.lw_system.specs.Reads.{MadeReads}
use Rattle.lw_learn.specs.bodies.Ready.{IsReady}
use Rattle.lw_learn.specs.bodies.UnreadState.{UnreadState}
use Rattle.lw_system.specs.declared.system.System.{System}
use Rattle.lw_learn.specs.declared.task.Task.{Task}
use Rattle.lw_learn.specs.declared.task.WordedTask.{WordedTask}

-- what was to be read says the result, by reads that all gave bytes and counted no fault; or else it is
-- why nothing can be learned
pub record IsStage {T : Type 0} (a : LearnValues) (files_before files_now : FilesState) (Says : T → Type 0) (result : Result T UnreadState) : Type 0 where
  pub ok : IfOk result Says
  pub made : OnOk result (MadeReads files_before files_now [])
  pub quiet : OnOk result (files_now.faults ≡ files_before.faults)
  pub err : IfErr result (λ u. IsUnreadBy a files_before files_now u.system u.kept u.outcome)
  pub same : files_now.holds ≡ files_before.holds
  pub counts : files_before.faults ≤ files_now.faults

-- the files say this system, which has few letters and words to start a child
pub record SaysWhole (a : LearnValues) (files_before files_now : FilesState) (s : System) : Type 0 where
  pub says : ReadsSystemFor a.goal a.source a.system files_before.holds files_before.reads files_now.reads s
  pub letters : length (letters_of s) ≤ 64
  pub words : HasWords s
  pub fits : IsSystemFor a.goal s

-- the files say this task, which is ready to be begun
pub record SaysReady (a : LearnValues) (files_before files_now : FilesState) (t : Task) : Type 0 where
  pub says : ReadsTask a files_before.holds files_before.reads files_now.reads t.system t.cache.kept
  pub ready : IsReady t.system t.names t.cache
  pub fits : IsSystemFor a.goal t.system

-- two prior answers of a system clash, the first that do; or memory ran out
abbrev pub IsClash : System → (prior : List KeptAnswer) → Option System → List KeptAnswer → Outcome → Type 0
IsClash s prior read kept (Nondeterministic clash) = (read ≡ Some s) × (kept ≡ prior) × IsFirstClash (answers_of prior) clash
IsClash s prior read kept NoMemory = (kept ≡ []) × (read ≡ None)
IsClash s prior read kept _ = ⊥

-- why prior answers of a system make no task, by the outcome
abbrev pub IsUnfit : System → Answers → Option System → List KeptAnswer → Outcome → Type 0
IsUnfit s p read kept (Alphabets r) = (r ≡ Prior) × (read ≡ Some s) × (¬ FitsSystem p s) × (kept ≡ [])
IsUnfit s p read kept (Nondeterministic clash) =
    (read ≡ Some (with_outputs p.outputs s)) × FitsSystem p s × (kept ≡ prior_answers p.outputs (or_these p.outputs (declared_of s)) p.kept.answers) × IsFirstClash (answers_of kept) clash
IsUnfit s p read kept NoMemory = (kept ≡ []) × (read ≡ None)
IsUnfit s p read kept _ = ⊥

-- a task of a system that was read before, by the bytes that were read of a file of prior answers
abbrev pub IsTaskWith : System → Answers → Task → Type 0
IsTaskWith s p t = FitsSystem p s × (t.system ≡ with_outputs p.outputs s) × (t.cache.kept ≡ prior_answers p.outputs (or_these p.outputs (declared_of s)) p.kept.answers) × IsReady t.system t.names t.cache

-- the system is handed back, but where memory ran out
abbrev pub IsBack : Outcome → System → Option System → Type 0
IsBack NoMemory s read = read ≡ None
IsBack _ s read = read ≡ Some s

-- why the file of prior answers made no task
abbrev pub IsPriorRefused : List ℕ → System → FilesState → FilesState → Option System → List KeptAnswer → Outcome → Type 0
IsPriorRefused name s files_before files_now read kept outcome =
    (IsRefused IsAnswersFile IsAnswersFault Prior name files_before files_now outcome × IsBack outcome s read × (kept ≡ []))
    ⊎ ((p : Answers) × ReadsFile IsAnswersFile name files_before.holds files_before.reads files_now.reads p × MadeReads files_before files_now [] × IsUnfit s p read kept outcome)

-- what came of reading prior answers of a system
pub record HasPrior (name : List ℕ) (s : System) (files_before files_now : FilesState) (result : Result Task UnreadState) : Type 0 where
  pub ok : IfOk result (λ t. (p : Answers) × ReadsFile IsAnswersFile name files_before.holds files_before.reads files_now.reads p × IsTaskWith s p t)
  pub made : OnOk result (MadeReads files_before files_now [])
  pub quiet : OnOk result (files_now.faults ≡ files_before.faults)
  pub err : IfErr result (λ u. IsPriorRefused name s files_before files_now u.system u.kept u.outcome)
  pub same : files_now.holds ≡ files_before.holds
  pub counts : files_before.faults ≤ files_now.faults

-- the files say what is to be learned and the words that are asked first, which are over its letters
pub record SaysWorded (a : LearnValues) (files_before files_now : FilesState) (t : WordedTask) : Type 0 where
  pub between : List File
  pub task : ReadsTask a files_before.holds files_before.reads between t.task.system t.task.cache.kept
  pub says : SaysWords a (letters_of t.task.system) files_before.holds between files_now.reads t.words
  pub ready : IsReady t.task.system t.task.names t.task.cache
  pub fits : IsSystemFor a.goal t.task.system
  pub letters : All (IsWord (length (letters_of t.task.system))) t.words
  pub few : length t.words < 2 ^ 32

-- the outcome of reading them
pub record IsWordedStage (a : LearnValues) (files_before files_now : FilesState) (result : Result WordedTask UnreadState) : Type 0 where
  pub ok : IfOk result (SaysWorded a files_before files_now)
  pub made : OnOk result (MadeReads files_before files_now [])
  pub quiet : OnOk result (files_now.faults ≡ files_before.faults)
  pub err : IfErr result (λ u. IsUnreadBy a files_before files_now u.system u.kept u.outcome ⊎ IsWordlessTask a files_before files_now u.system u.kept u.outcome)
  pub same : files_now.holds ≡ files_before.holds
  pub counts : files_before.faults ≤ files_now.faults

-- what came of reading the words that are asked first
pub record HasWorded (a : LearnValues) (letters : List (List ℕ)) (files_before files_now : FilesState) (result : Result (List (List ℕ)) Outcome) : Type 0 where
  pub ok : IfOk result (SaysWords a letters files_before.holds files_before.reads files_now.reads)
  pub words : IfOk result (All (IsWord (length letters)))
  pub few : IfOk result (λ w. length w < 2 ^ 32)
  pub made : OnOk result (MadeReads files_before files_now [])
  pub quiet : OnOk result (files_now.faults ≡ files_before.faults)
  pub err : IfErr result (IsWordless a.words letters files_before files_now)
  pub same : files_now.holds ≡ files_before.holds
  pub counts : files_before.faults ≤ files_now.faults

-- why bytes say no words, by the outcome: the first name that is no letter's, or memory ran out
abbrev pub SaysNoWords : (letters : List (List ℕ)) → List ℕ → Outcome → Type 0
SaysNoWords letters bytes (UnknownLetter line place) = IsFirstUnknown letters (lines_in (utf8_lossy bytes)) line place
SaysNoWords letters bytes NoMemory = Unit {0}
SaysNoWords letters bytes _ = ⊥

-- what came of reading a file of words
pub record HasNamedWords (file : Option (List ℕ)) (letters : List (List ℕ)) (files_before files_now : FilesState) (result : Result (List (List ℕ)) Outcome) : Type 0 where
  pub ok : IfOk result (ReadsWords file letters files_before.holds files_before.reads files_now.reads)
  pub words : IfOk result (All (IsWord (length letters)))
  pub made : OnOk result (MadeReads files_before files_now [])
  pub quiet : OnOk result (files_now.faults ≡ files_before.faults)
  pub err : IfErr result (IsWordless file letters files_before files_now)
  pub same : files_now.holds ≡ files_before.holds
  pub counts : files_before.faults ≤ files_now.faults

abbrev pub HasNamed : List ℕ → (letters : List (List ℕ)) → (files_before files_now : FilesState) → Result (List (List ℕ)) Outcome → Type 0
HasNamed name letters files_before files_now result = HasNamedWords (Some name) letters files_before files_now result
