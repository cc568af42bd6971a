-- How a call of `learn` ends.
use Rattle.std.specs.Prelude.{◌≡◌, ◌≢◌, ◌⊎◌, ℕ, ◌≤◌, List, [], ◌∷◌, ◌++◌, length, Option, Some, None, Result, Ok, Err, IfErr, IfSome, option_map, option_and_then}
use Rattle.std.specs.List.{All}
use Rattle.lw_words.specs.Word.{answers_of}
use Rattle.lw_words.specs.Cause.{CountedFault}
use Rattle.lw_words.specs.declared.kept.KeptAnswer.{KeptAnswer}
use Rattle.lw_cache.specs.Clash.{NothingClashes}
use Rattle.lw_names.specs.Naming.{Naming}
use Rattle.lw_mealy.specs.Machine.{Gives, IsMachine, Rows}
use Rattle.lw_outside.specs.Files.{File, FilesState}
use Rattle.lw_outside.specs.Links.{LinkState, SpawnerState}
use Rattle.lw_rounds.specs.Learner.{refinements_of}
use Rattle.lw_rounds.specs.declared.learned.Learned.{Learned as Found}
use Rattle.lw_rounds.specs.declared.stops.LearnStop.{LearnStop}
use Rattle.lw_rounds.specs.Plain.{by_w, plain_task}
use Rattle.lw_rounds.specs.declared.learner.Kind.TheVariants as kind
use Rattle.lw_workers.specs.Asking.{AnswersWords}
use Rattle.lw_workers.specs.Plain.{HasPlainWords}
use Rattle.lw_workers.specs.Machines.{IsWithin}
use Rattle.lw_children.specs.Children.{IsSound, IsUncounted}
use Rattle.lw_system.specs.NewLines.{count_of}
use Rattle.lw_outside.specs.Streams.{SinkState}
use Rattle.lw_report.specs.Ends.{IsWithoutLearner}
use Rattle.lw_report.specs.Learnings.{HasModel, learn_outcome}
use Rattle.lw_report.specs.Outcomes.{StandsOrWants}
use Rattle.lw_report.specs.Text.{names_of, text_of}
use Rattle.lw_report.specs.Writing.{TakesAll, TakesSome, said_text}
use Rattle.lw_report.specs.declared.«end».End.{End}
use Rattle.lw_report.specs.declared.outcome.Outcome.TheVariants.{FileFault, NoMemory, SinkFault}
use Rattle.lw_report.specs.declared.role.Role.{Role}
use Rattle.lw_report.specs.declared.role.Role.TheVariants.{Kept}
use Rattle.lw_learn.specs.Arguments.{LearnValues}
use Rattle.lw_learn.specs.Asking.{IsWordlessTask, SaysWords}
use Rattle.lw_learn.specs.Calls.{MadeWrites}
use Rattle.lw_learn.specs.Findings.{IsOfSystem, LearningStopsBy}
use Rattle.lw_learn.specs.Last.{LeavesLast}
use Rattle.lw_learn.specs.Probes.{IsUnwritable, probes_of, written_files}
use Rattle.lw_learn.specs.Outcomes.{IsBadLine, IsLearnedOutcome, IsReachedOutcome, ModelIsTold}
use Rattle.lw_learn.specs.Saving.{HasSaved, IsSaved, KeptStand, MayTell}
use Rattle.lw_learn.specs.Tasks.{ReadsTask}
use Rattle.lw_system.specs.Systems.{declared_of, letters_of}
use Rattle.lw_learn.specs.Unread.{IsUnreadAs, names_read}
use Rattle.lw_system.specs.Reads.{MadeReads}
use Rattle.lw_learn.specs.Writing.{CountsStay, IsWritable, NothingFailed, StaysBesides, TakesInTurn, WritesModel, model_line}
use Rattle.lw_learn.specs.declared.saving.Saved.{Saved}
use Rattle.lw_learn.specs.declared.saving.Saved.TheVariants as saving
use Rattle.lw_system.specs.declared.goal.Goal.{Goal}
use Rattle.lw_system.specs.declared.system.System.{System}
use Rattle.lw_system.specs.declared.system.System.TheVariants.{Table, Children}

-- no learning began: no child is started, nothing is written but prior answers, where they clash or words that are to be asked
-- could not be read, which are what is kept, and the outcome's text goes to `err`. Where a file can't be written, which is
-- reported once all was read, nothing is
pub record EndsUnread (a : LearnValues) (files_before files_now : FilesState) (spawner_before spawner_now : SpawnerState) (out_before out_now : SinkState) (err_before err_now : SinkState) (end : End) : Type 0 where
  pub read : Option System
  pub between : FilesState
  pub cause : IsUnreadAs a files_before between read end.kept.answers end.outcome ⊎
      (IsWordlessTask a files_before between read end.kept.answers end.outcome ⊎
      IsUnwritable a files_before between read end.kept.answers end.outcome)
  pub same : between.holds ≡ files_before.holds
  pub model : end.model ≡ None
  pub learner : IsWithoutLearner end
  -- no names only where nothing is kept
  pub outputs : (end.outputs ≡ names_read read) ⊎
      ((end.outcome ≡ NoMemory) × (end.outputs ≡ None) × (end.kept.answers ≡ []))
  pub saved : IsSaved a.kept (names_of (option_map letters_of read))
      (names_of (option_and_then declared_of read)) end.kept.answers between files_now end.outcome
  pub unstarted : spawner_now ≡ spawner_before
  pub unwritten : out_now ≡ out_before
  pub said : ¬ CountedFault err_before.faults err_now.faults → TakesAll
      (said_text (option_map letters_of read) (option_and_then declared_of read) end.kept.answers
      a.extra end.outcome) err_before.taken err_now.taken
  pub part : TakesSome (said_text (option_map letters_of read) (option_and_then declared_of read)
      end.kept.answers a.extra end.outcome) err_before.taken err_now.taken

-- what a learning answered is what the end says: its model is carried with its learner, and was written out, but that a write
-- may have failed or memory run out; or the outcome is that of its stop, but that memory may have run out
abbrev pub Carries : Goal → Result Found LearnStop → End → Type 0
Carries goal (Ok l) end = (end.model ≡ Some l.model) × (end.learner ≡ Some l.learner) × (end.refinements ≡ refinements_of l.learner) × ModelIsTold goal l.model (refinements_of l.learner) end.outcome
Carries goal (Err stop) end = (end.model ≡ None) × IsWithoutLearner end × StandsOrWants (learn_outcome stop) end.outcome

-- the names of outputs that an end has: where they weren't declared, those of the recorded answers, if there are any
abbrev pub end_outputs : Option (List (List ℕ)) → List KeptAnswer → Naming → Option Naming
end_outputs (Some declared) kept naming = Some naming
end_outputs None [] naming = None
end_outputs None (k ∷ ks) naming = Some naming

-- once the recorded answers were saved, what was learned of a system is written out, or why nothing was is said
pub record IsToldOf (a : LearnValues) (s : System) (naming : Naming) (learned : Result Found LearnStop) (kept : List KeptAnswer) (was : Saved) (files_before files_now : FilesState) (out_before out_now : SinkState) (err_before err_now : SinkState) (end : End) : Type 0 where
  pub carries : Carries a.goal learned end
  pub kept_is : end.kept.answers ≡ kept
  pub outputs : end.outputs ≡ end_outputs (declared_of s) kept naming
  -- files and streams: of a model by the outcome, and nothing where there is none
  pub written : IfSome end.model (WritesModel a kept end.outcome files_now.holds (out_before.taken, out_now.taken)
      (out_before.faults, out_now.faults) (letters_of s) naming.names)
  pub nothing : end.model ≡ None → (out_now ≡ out_before) × (files_now ≡ files_before)
  pub beside : StaysBesides a.model a.answers None files_before.holds files_now.holds
  pub may : MayTell was end.outcome
  pub said : ¬ CountedFault err_before.faults err_now.faults →
      TakesAll (text_of (letters_of s) naming.names kept a.extra end.outcome) err_before.taken err_now.taken
  pub in_turn : TakesInTurn (model_line a.goal (letters_of s) naming.names kept a.extra end.model
      end.refinements) (text_of (letters_of s) naming.names kept a.extra end.outcome) err_before.taken
      err_now.taken
  pub quiet : IsLearnedOutcome end.outcome → CountsStay files_before files_now out_before out_now err_before err_now
  -- a write that failed, of a file that is named or of a stream; or the recorded answers' file failed before
  pub role : (r : Role) → end.outcome ≡ FileFault r → IsWritable a r
  pub file_fault : (r : Role) → end.outcome ≡ FileFault r → r ≢ Kept →
      CountedFault files_before.faults files_now.faults
  pub sink_fault : end.outcome ≡ SinkFault → CountedFault out_before.faults out_now.faults ⊎
      CountedFault err_before.faults err_now.faults
  pub reads : files_now.reads ≡ files_before.reads
  pub writes : MadeWrites a end.outcome files_before.calls files_now.calls
  pub counts : (files_before.faults ≤ files_now.faults) × (out_before.faults ≤ out_now.faults) × (err_before.faults ≤ err_now.faults)

-- however a learning ended, what it kept is saved first; then the rest is reported
pub record IsEndOf (a : LearnValues) (s : System) (naming : Naming) (learned : Result Found LearnStop) (kept : List KeptAnswer) (files_before files_now : FilesState) (out_before out_now : SinkState) (err_before err_now : SinkState) (end : End) : Type 0 where
  pub between : FilesState
  pub was : Saved
  pub saved : HasSaved a.kept (letters_of s) naming.names kept files_before between was
  pub told : IsToldOf a s naming learned kept was between files_now out_before out_now err_before err_now end
  -- so it stands in its file where no write of it failed and memory didn't run out, but for a later write under its name
  pub stands : was ≡ saving.Stand → a.kept ≢ a.model → a.kept ≢ a.answers →
      KeptStand a.kept files_now.holds (letters_of s) naming.names kept
  pub beside : StaysBesides a.model a.answers a.kept files_before.holds files_now.holds
  pub counts : (files_before.faults ≤ files_now.faults) × (out_before.faults ≤ out_now.faults) × (err_before.faults ≤ err_now.faults)

-- no start failed, and nothing is wrong with a link that was retired
abbrev pub IsSoundSystem : System → SpawnerState → SpawnerState → Type 0
IsSoundSystem (Table m) before now = Unit {0}
IsSoundSystem (Children c) before now = (¬ CountedFault before.faults now.faults) × ((links : List LinkState) → now.retired ≡ before.retired ++ links → All (IsSound c.outputs) links)

-- no start failed, and no link that was retired counted a fault or an end
abbrev pub IsUncountedSystem : System → SpawnerState → SpawnerState → Type 0
IsUncountedSystem (Table m) before now = Unit {0}
IsUncountedSystem (Children c) before now = (¬ CountedFault before.faults now.faults) × ((links : List LinkState) → now.retired ≡ before.retired ++ links → All IsUncounted links)

-- a system was learned behind prior answers
pub record EndsLearned (a : LearnValues) (s : System) (prior : List KeptAnswer) (files_before files_now : FilesState) (spawner_before spawner_now : SpawnerState) (out_before out_now : SinkState) (err_before err_now : SinkState) (end : End) : Type 0 where
  -- what was learned, the recorded answers, the children, and why there is no model where there is none
  pub naming : Naming
  pub learned : Result Found LearnStop
  pub found : IsOfSystem a s prior spawner_before spawner_now learned end.kept.answers naming.names
  -- the model, and what it is worth
  pub model : IfSome end.model (HasModel a.learner a.testing (length (letters_of s))
      (length naming.names) a.extra a.max_states end)
  pub stops : IfErr learned (LearningStopsBy (length (letters_of s)) (count_of (declared_of s)) a.extra
      a.max_states (answers_of end.kept.answers))
  -- where nothing outside was wrong, and a machine of n states that agrees with the answers is within the limits, a
  -- model comes within n - 1 refinements, or memory runs out
  pub reached :
      (r : Rows)
      → NothingFailed (files_before.faults, files_now.faults) (out_before.faults, out_now.faults) (err_before.faults, err_now.faults)
      → IsSoundSystem s spawner_before spawner_now
      → IsWithin (length (letters_of s)) a.extra a.max_states r
      → Gives r (answers_of end.kept.answers)
      → IsReachedOutcome a.goal (length r) end.outcome
  -- where links needn't tell what went over them, and nothing was counted, one comes so, or an instance said a bad line
  pub counted :
      (r : Rows)
      → NothingFailed (files_before.faults, files_now.faults) (out_before.faults, out_now.faults) (err_before.faults, err_now.faults)
      → IsUncountedSystem s spawner_before spawner_now
      → IsWithin (length (letters_of s)) a.extra a.max_states r
      → Gives r (answers_of end.kept.answers)
      → IsReachedOutcome a.goal (length r) end.outcome ⊎ IsBadLine a.workers end.outcome
  pub told : IsEndOf a s naming learned end.kept.answers files_before files_now out_before out_now err_before err_now end

-- the same, once the machine that is left at an end without a model was written
pub record EndsLeaving (a : LearnValues) (s : System) (prior : List KeptAnswer) (files_before files_now : FilesState) (spawner_before spawner_now : SpawnerState) (out_before out_now : SinkState) (err_before err_now : SinkState) (end : End) : Type 0 where
  pub left : FilesState
  pub learned : EndsLearned a s prior left files_now spawner_before spawner_now out_before out_now err_before err_now end
  pub last : LeavesLast a.last end.model (letters_of s) learned.naming.names files_before left

-- a model of a table that was learned by the W-method with no walks and no prior answers is the plain learner's, with as many refinements, for each
-- machine that gives all that is kept; and the words of what is kept are those taken from its batches in turn
abbrev pub EndsPlainly : LearnValues → ℕ → List (List ℕ) → List KeptAnswer → End → Type 0
EndsPlainly a letters words prior end = a.learner ≡ kind.Table → a.testing ≡ by_w → prior ≡ [] → (m : Rows) → IsMachine letters m → Gives m (answers_of end.kept.answers)
    → IfSome end.model (λ model. HasPlainWords (plain_task letters m a.extra a.max_states) words model.rows end.refinements end.kept.answers)

-- the files say a system, prior answers and words that are asked first, and the system was learned; where there is a model each
-- of the words was answered
pub record EndsRead (a : LearnValues) (files_before files_now : FilesState) (spawner_before spawner_now : SpawnerState) (out_before out_now : SinkState) (err_before err_now : SinkState) (end : End) : Type 0 where
  pub system : System
  pub prior : List KeptAnswer
  pub words : List (List ℕ)
  pub between : List File
  pub middle : FilesState
  pub task : ReadsTask a files_before.holds files_before.reads between system prior
  pub asked : SaysWords a (letters_of system) files_before.holds between middle.reads words
  -- each file that will be written was probed once all was read, and no probe failed; where one fails no child is started, as
  -- EndsUnread says, so the probes come before the first start
  pub made : MadeReads files_before middle (probes_of (written_files a))
  pub quiet : middle.faults ≡ files_before.faults
  pub same : middle.holds ≡ files_before.holds
  -- of two prior answers that clash nothing is learned
  pub unclashed : NothingClashes (answers_of prior)
  pub ended : EndsLeaving a system prior middle files_now spawner_before spawner_now out_before out_now err_before err_now end
  pub answered : end.model ≢ None → AnswersWords words end.kept.answers
  pub plainly : EndsPlainly a (length (letters_of system)) words prior end
