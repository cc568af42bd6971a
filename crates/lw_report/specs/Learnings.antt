-- What the end of a learning says, of a learner of a kind and a system over a inputs and b outputs, with k extra states
-- and at most this many states.
use Rattle.std.specs.Prelude.{◌≡◌, ℕ, ◌+◌, ◌≤◌, List, length, Some}
use Rattle.lw_words.specs.Word.{Answer, answers_of}
use Rattle.lw_words.specs.declared.stop.SulStop.{SulStop}
use Rattle.lw_words.specs.declared.stop.SulStop.TheVariants as sul
use Rattle.lw_cache.specs.declared.stops.AskStop.{AskStop}
use Rattle.lw_cache.specs.declared.stops.AskStop.TheVariants as ask
use Rattle.lw_mealy.specs.Machine.{Gives, MealyMachine, Rows, IsMachine}
use Rattle.lw_separate.specs.Canonical.{IsCanonical}
use Rattle.lw_rounds.specs.declared.settings.Testing.{Testing}
use Rattle.lw_rounds.specs.Learned.{IsCertified, IsEnoughFor, IsReadOff, IsTooLarge}
use Rattle.lw_rounds.specs.Learner.{refinements_of}
use Rattle.lw_rounds.specs.declared.learner.Kind.{Kind}
use Rattle.lw_rounds.specs.declared.learner.Learner.{Learner}
use Rattle.lw_rounds.specs.declared.stops.LearnStop.{LearnStop}
use Rattle.lw_rounds.specs.declared.stops.LearnStop.TheVariants as learn
use Rattle.lw_renumber.specs.Renaming.{Renames, renamed_answers, renamed_rows}
use Rattle.lw_report.specs.declared.«end».End.{End}
use Rattle.lw_report.specs.declared.outcome.Outcome.{Outcome}
use Rattle.lw_report.specs.declared.outcome.Outcome.TheVariants.{Nondeterministic, NoMemory, SulFailed, Gone, BadLine, TooManyStates, SuiteTooLarge}

-- the learner is of the kind that was asked for; it is closed, a tree without temporary nodes; the rows are the canonical form
-- of its machine, and its access words, as many as its states, are pairwise apart; all but that the outputs of the
-- rows and of the answers may have got other numbers since, by f, which g takes back: before that there were this many
pub record IsReadOffAs (kind : Kind) (a most : ℕ) (ks : List Answer) (rows : Rows) (learner : Learner) : Type 0 where
  pub own_rows : Rows
  pub own_answers : List Answer
  pub count : ℕ
  pub f : ℕ → ℕ
  pub g : ℕ → ℕ
  pub renames : Renames f g
  pub rows_are : rows ≡ renamed_rows f own_rows
  pub answers_are : ks ≡ renamed_answers f own_answers
  pub read_off : IsReadOff kind a count most own_answers own_rows learner

-- the end has this model, and the recorded answers fix it
pub record HasModel (kind : Kind) (testing : Testing) (a b k most : ℕ) (end : End) (h : MealyMachine) : Type 0 where
  -- complete, within the limits and in canonical form; it agrees with the recorded answers; and every machine of at
  -- most k states more that agrees with them does on every word what the model does
  pub certified : IsCertified a b k (answers_of end.kept.answers) h
  -- by the suites that were asked for the verdict on it is that the answers are enough, and its walks, where some are drawn, are known
  pub enough : IsEnoughFor testing a k (answers_of end.kept.answers) h
  -- so it is the canonical form of each such machine
  pub canonical : (m : Rows) → IsMachine a m → length m ≤ length h.rows + k →
      Gives m (answers_of end.kept.answers) → IsCanonical a m h.rows
  -- no machine of fewer states agrees with the answers
  pub least : (m : Rows) → IsMachine a m → Gives m (answers_of end.kept.answers) →
      length h.rows ≤ length m
  -- the closed learner that it is read off is carried, of the kind that was asked for, and the refinements are those of the
  -- learner, fewer than the states
  pub learner : Learner
  pub carried : end.learner ≡ Some learner
  pub read_off : IsReadOffAs kind a most (answers_of end.kept.answers) h.rows learner
  pub counted : end.refinements ≡ refinements_of learner

-- this many states is the least number of a machine that agrees with the answers, and its suite, of this size, is too
-- large
pub record HasLargeSuite (a b k most : ℕ) (ks : List Answer) (states number : ℕ) : Type 0 where
  pub model : MealyMachine
  pub large : IsTooLarge a b k most ks model number
  pub states_are : states ≡ length model.rows
  pub least : (m : Rows) → IsMachine a m → Gives m ks → states ≤ length m

-- the outcome of a system that stopped so, by its instance
abbrev pub system_outcome : ℕ → SulStop → Outcome
system_outcome instance sul.Failed = SulFailed instance
system_outcome instance (sul.BadLine line) = BadLine instance line
system_outcome instance sul.Gone = Gone instance

-- the outcome of an ask that stopped so
abbrev pub ask_outcome : AskStop → Outcome
ask_outcome (ask.Clash clash) = Nondeterministic clash
ask_outcome (ask.Sul instance stop) = system_outcome instance stop
ask_outcome ask.NoMemory = NoMemory

-- the outcome of a learning that stopped so
abbrev pub learn_outcome : LearnStop → Outcome
learn_outcome (learn.Ask stop) = ask_outcome stop
learn_outcome (learn.Crowd words) = TooManyStates words
learn_outcome (learn.TooLarge model number) = SuiteTooLarge (length model.rows) number
