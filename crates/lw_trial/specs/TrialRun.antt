-- What a call of `trial` did, for callers: all that its contract says, in one record.
use Rattle.std.specs.Prelude.{◌≡◌, ◌≢◌, ◌↔◌, ℕ, ◌<◌, ◌≤◌, List, [], ◌∷◌, length, codes, true, None, Some, IfSome}
use Rattle.lw_words.specs.Word.{answers_of}
use Rattle.lw_words.specs.Cause.{CountedFault}
use Rattle.lw_words.specs.declared.kept.KeptAnswer.{KeptAnswer}
use Rattle.lw_mealy.specs.Machine.{MealyMachine, Rows, mealy_of}
use Rattle.lw_separate.specs.Canonical.{IsCanonical}
use Rattle.lw_chunks.specs.Size.{suite_size, greatest_suite}
use Rattle.lw_chunks.specs.declared.method.Method.TheVariants as method
use Rattle.lw_names.specs.Naming.{Naming}
use Rattle.lw_rounds.specs.Learned.{IsReadOff}
use Rattle.lw_rounds.specs.Plain.{by_suites, plain_task}
use Rattle.lw_rounds.specs.declared.learner.Kind.TheVariants as kind
use Rattle.lw_rounds.specs.declared.learner.Learner.{Learner}
use Rattle.lw_workers.specs.Machines.{KeepsRuns}
use Rattle.lw_workers.specs.Plain.{HasPlainWords}
use Rattle.lw_report.specs.Ends.{IsWithoutLearner}
use Rattle.lw_report.specs.Learnings.{HasModel, HasLargeSuite}
use Rattle.lw_outside.specs.Streams.{SinkState}
use Rattle.lw_report.specs.Writing.{TakesAll, TakesSome, said_text}
use Rattle.lw_report.specs.declared.«end».End.{End}
use Rattle.lw_report.specs.declared.outcome.Outcome.{Outcome}
use Rattle.lw_report.specs.declared.outcome.Outcome.TheVariants.{NoMemory, SinkFault, SuiteTooLarge, Trial}
use Rattle.lw_report.specs.declared.outcome.Tried.{Tried}
use Rattle.lw_trial.specs.Arguments.{TrialValues}
use Rattle.lw_trial.specs.Drawn.{drawn_rows}

-- the machine that is drawn
abbrev pub drawn_machine : TrialValues → MealyMachine
drawn_machine v = mealy_of v.inputs 2 (drawn_rows v.states v.inputs v.seed)

-- the names of its outputs
abbrev pub drawn_outputs : List (List ℕ)
drawn_outputs = codes "0" ∷ codes "1" ∷ []

abbrev pub drawn_naming : Naming
drawn_naming = record { names = drawn_outputs; brought = None }

-- the plain learner of the machine that is drawn ends with this model after this many refinements, where a table is learned by the
-- W-method, and the words of the recorded answers are those taken from its batches in turn
abbrev pub IsTriedPlainly : TrialValues → Rows → ℕ → List KeptAnswer → Type 0
IsTriedPlainly v model refinements kept = v.learner ≡ kind.Table → v.suite ≡ method.W → HasPlainWords (plain_task v.inputs (drawn_machine v).rows 1 1024) [] model refinements kept

-- what is reported of a trial: the arguments; the states of the model, the refinements and the number of the recorded
-- answers; and that the two are equal exactly where the model is the canonical form of the machine that was drawn
pub record IsTried (v : TrialValues) (end : End) (t : Tried) : Type 0 where
  pub states : t.states ≡ v.states
  pub inputs : t.inputs ≡ v.inputs
  pub seed : t.seed ≡ v.seed
  pub model : MealyMachine
  pub has : end.model ≡ Some model
  pub learned : t.learned ≡ length model.rows
  pub refinements : t.refinements ≡ end.refinements
  pub answers : t.answers ≡ length end.kept.answers
  pub equal : (t.equal ≡ true) ↔ IsCanonical v.inputs (drawn_machine v).rows model.rows

-- the outcome of `trial`: the machine has no more states than there may be, so a learning never ends in too many
abbrev pub IsTrialOutcome : Outcome → Type 0
IsTrialOutcome (Trial t) = Unit {0}
IsTrialOutcome (SuiteTooLarge states number) = Unit {0}
IsTrialOutcome NoMemory = Unit {0}
IsTrialOutcome SinkFault = Unit {0}
IsTrialOutcome _ = ⊥

-- a trial is reported that came within fewer than n refinements, or memory ran out
abbrev pub IsReachedTrial : ℕ → Outcome → Type 0
IsReachedTrial n (Trial t) = t.refinements < n
IsReachedTrial n NoMemory = Unit {0}
IsReachedTrial n _ = ⊥

abbrev pub IsTrial : Outcome → Type 0
IsTrial (Trial t) = Unit {0}
IsTrial _ = ⊥

-- a call with these arguments changed `out` and `err` so, and came to the end
pub record IsTrialRun (v : TrialValues) (out_before out_now : SinkState) (err_before err_now : SinkState) (end : End) : Type 0 where
  -- the model of the machine that was drawn, with one extra state and at most 1,024 states
  pub model : IfSome end.model (HasModel v.learner (by_suites v.suite) v.inputs 2 1 1024 end)
  -- no output has another number since: the model is the canonical form of the carried learner's machine
  pub read_off : IfSome end.model (λ h. (l : Learner) × (end.learner ≡ Some l) ×
      IsReadOff v.learner v.inputs 2 1024 (answers_of end.kept.answers) h.rows l)
  pub without : end.model ≡ None → IsWithoutLearner end
  pub told : (t : Tried) → end.outcome ≡ Trial t → IsTried v end t
  pub quiet : IsTrial end.outcome → (out_now.faults ≡ out_before.faults) × (err_now.faults ≡ err_before.faults)
  -- the recorded answers are runs of the instances of that machine
  pub kept : KeepsRuns (drawn_machine v) v.workers [] end.kept.answers
  -- a table that is learned by the W-method has the model, the refinements and the words of the drawn machine's plain learner,
  -- at every number of instances and in every schedule
  pub plainly : IfSome end.model (λ h. IsTriedPlainly v h.rows end.refinements end.kept.answers)
  -- the outputs are those of the machine that was drawn; there are none only where memory ran out before anything was kept
  pub outputs : IfSome end.outputs (λ named. named ≡ drawn_naming)
  pub unnamed : end.outputs ≡ None → (end.outcome ≡ NoMemory) × (end.kept.answers ≡ [])
  -- where its suite is not too large and no stream counted a fault, a trial is reported, or memory runs out
  pub reached :
      suite_size v.states v.inputs 1 ≤ greatest_suite
      → ¬ CountedFault out_before.faults out_now.faults
      → ¬ CountedFault err_before.faults err_now.faults
      → IsReachedTrial v.states end.outcome
  -- a trial's text stands whole on `out`, and nothing on `err`; of any other outcome but a fault of a stream nothing is put to
  -- `out`, and its text goes to `err`, whole where that counts no fault
  pub written : IsTrial end.outcome → TakesAll (said_text None None end.kept.answers 1 end.outcome)
      out_before.taken out_now.taken × (err_now.taken ≡ err_before.taken)
  pub part : out_now.taken ≢ out_before.taken → (t : Tried) × IsTried v end t ×
      TakesSome (said_text None None end.kept.answers 1 (Trial t)) out_before.taken out_now.taken
  pub unwritten : ¬ IsTrial end.outcome → end.outcome ≢ SinkFault → out_now.taken ≡ out_before.taken
  pub said : ¬ IsTrial end.outcome → ¬ CountedFault err_before.faults err_now.faults →
      TakesAll (said_text None None end.kept.answers 1 end.outcome) err_before.taken err_now.taken
  pub said_part : ¬ IsTrial end.outcome →
      TakesSome (said_text None None end.kept.answers 1 end.outcome) err_before.taken err_now.taken
  -- what each refusal comes from
  pub kinds : IsTrialOutcome end.outcome
  pub sink_fault : end.outcome ≡ SinkFault → CountedFault out_before.faults out_now.faults ×
      ((h : MealyMachine) × (end.model ≡ Some h))
  pub suite : (states number : ℕ) → end.outcome ≡ SuiteTooLarge states number →
      HasLargeSuite v.inputs 2 1 1024 (answers_of end.kept.answers) states number
