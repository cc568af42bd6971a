-- A learning by workers that begins with no answers: what the plain learner does by the machine alone (lw_plain), whatever the number of
-- workers and the schedule.
use Rattle.std.specs.Prelude.{◌≡◌, ℕ, List, [], map, Result, IfOk}
use Rattle.std.specs.List.Sorted.{IsPermutation}
use Rattle.lw_words.specs.Word.{answers_of}
use Rattle.lw_words.specs.declared.kept.KeptAnswer.{KeptAnswer}
use Rattle.lw_mealy.specs.Machine.{Gives, IsMachine, Rows}
use Rattle.lw_rounds.specs.declared.settings.Testing.{Testing}
use Rattle.lw_plain.specs.Rounds.{Task, LearnsPlainly}
use Rattle.lw_plain.specs.Taken.{AreTakenInTurn}
use Rattle.lw_rounds.specs.Learner.{refinements_of}
use Rattle.lw_rounds.specs.Plain.{by_w, plain_task}
use Rattle.lw_rounds.specs.declared.learned.Learned.{Learned}
use Rattle.lw_rounds.specs.declared.learner.Kind.{Kind}
use Rattle.lw_rounds.specs.declared.learner.Kind.TheVariants as kind
use Rattle.lw_rounds.specs.declared.stops.LearnStop.{LearnStop}

-- the plain learner ends with this model after this many refinements, and the recorded words are those that are taken from its batches in turn
pub record HasPlainWords (task : Task) (given : List (List ℕ)) (model : Rows) (refinements : ℕ) (kept : List KeptAnswer) : Type 0 where
  pub batches : List (List (List ℕ))
  pub learns : LearnsPlainly task given model refinements batches
  pub taken : AreTakenInTurn [] batches (map (λ k. k.word) kept)

-- so it is where a table was learned by the W-method with no walks and no prior answers, for each machine that agrees with all recorded answers; these words
-- were asked first
abbrev pub RunsAsPlain : Kind → Testing → ℕ → ℕ → ℕ → List (List ℕ) → Result Learned LearnStop → List KeptAnswer → List KeptAnswer → Type 0
RunsAsPlain of_kind testing a k most given learned prior kept = of_kind ≡ kind.Table → testing ≡ by_w → prior ≡ [] → (m : Rows) → IsMachine a m → Gives m (answers_of kept)
    → IfOk learned (λ l. HasPlainWords (plain_task a m k most) given l.model.rows (refinements_of l.learner) kept)

-- two runs have one model, as many refinements, and the same words but for the order
pub record AreOneRun (one other : Rows) (refined again : ℕ) (kept more : List KeptAnswer) : Type 0 where
  pub model : one ≡ other
  pub refinements : refined ≡ again
  pub words : IsPermutation (map (λ k. k.word) kept) (map (λ k. k.word) more)

-- so it is of each two of one machine, at whatever numbers of workers and in whatever schedules
abbrev pub RunsAreOne : Type 0
RunsAreOne = (task : Task) (given : List (List ℕ)) (one other : Rows) (refined again : ℕ) (kept more : List KeptAnswer) → HasPlainWords task given one refined kept → HasPlainWords task given other again more
    → AreOneRun one other refined again kept more
