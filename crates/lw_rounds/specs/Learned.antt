-- What a learning says by its answer. Source: the learner of Angluin (1987), whose equivalence query is here a suite, as that of
-- Vasilevskii (1973) and Chow (1978).
use Rattle.std.specs.Prelude.{◌≡◌, ℕ, ◌+◌, ◌<◌, ◌≤◌, List, length, Option, None, Some}
use Rattle.std.specs.List.{All}
use Rattle.lw_words.specs.Word.{Answer}
use Rattle.lw_mealy.specs.Machine.{Gives, MealyMachine, IsWithinLimits, Rows, Sure}
use Rattle.lw_cache.specs.Crowd.{IsCrowd}
use Rattle.lw_cache.specs.Known.{IsKnown}
use Rattle.lw_separate.specs.Canonical.{IsCanonical}
use Rattle.lw_chunks.specs.Size.{suite_size, greatest_suite}
use Rattle.lw_certify.specs.Verdict.{IsVerdict}
use Rattle.lw_certify.specs.declared.verdict.Verdict.TheVariants as verdict
use Rattle.lw_draw.specs.Walks.{AreWalks}
use Rattle.lw_draw.specs.declared.drawing.Drawn.{Drawn}
use Rattle.lw_rounds.specs.declared.settings.Testing.{Testing}
use Rattle.lw_rounds.specs.Learner.{kind_of, inputs_of, outputs_of, most_of, access_of, refinements_of, IsLearner, IsRead, IsClosedLearner, HasNoTemporary, IsMachineOf}
use Rattle.lw_rounds.specs.declared.learner.Kind.{Kind}
use Rattle.lw_rounds.specs.declared.learner.Learner.{Learner}
use Rattle.lw_rounds.specs.declared.stops.LearnStop.{LearnStop}
use Rattle.lw_rounds.specs.declared.stops.LearnStop.TheVariants as learn

-- the model is canonical and agrees with the answers, and they fix it among all machines of at most k states more
pub record IsCertified (a b k : ℕ) (ks : List Answer) (model : MealyMachine) : Type 0 where
  pub inputs : model.inputs ≡ a
  pub outputs : model.outputs ≡ b
  pub complete : IsWithinLimits model
  pub canonical : IsCanonical a model.rows model.rows
  pub gives : Gives model.rows ks
  pub sure : Sure a model.rows ks k

-- where walks are drawn, those of the machine are known
abbrev pub AreWalked : Option Drawn → ℕ → List Answer → Rows → Type 0
AreWalked None a ks h = Unit {0}
AreWalked (Some drawn) a ks h = (words : List (List ℕ)) × AreWalks a h drawn words × All (IsKnown ks) words

-- the answers are enough for the model by such tests: this is the verdict on it for k extra states, by the suites that are made so,
-- and all walks are known
pub record IsEnoughFor (testing : Testing) (a k : ℕ) (ks : List Answer) (model : MealyMachine) : Type 0 where
  pub verdict : IsVerdict testing.suite a model.rows ks k verdict.Sure
  pub walked : AreWalked testing.walks a ks model.rows

-- the learner is of the kind that was asked for; it is closed, a tree without temporary nodes; the rows are the canonical form
-- of its machine, and its access words, as many as its states, are pairwise apart
pub record IsReadOff (kind : Kind) (a b most : ℕ) (ks : List Answer) (rows : Rows) (l : Learner) : Type 0 where
  pub of_kind : kind_of l ≡ kind
  pub inputs : inputs_of l ≡ a
  pub outputs : outputs_of l ≡ b
  pub limit : most_of l ≡ most
  pub learner : IsLearner l
  pub closed : IsClosedLearner l
  pub final : HasNoTemporary l
  pub read : IsRead ks l
  pub machine : Rows
  pub of_learner : IsMachineOf l machine
  pub canonical : IsCanonical a machine rows
  pub crowd : IsCrowd ks (access_of l)
  pub each : length (access_of l) ≡ length rows
  pub refined : refinements_of l < length rows

-- what a learning answers
pub record IsLearned (kind : Kind) (a b k most : ℕ) (ks : List Answer) (model : MealyMachine) (l : Learner) : Type 0 where
  pub certified : IsCertified a b k ks model
  pub carried : IsReadOff kind a b most ks model.rows l

-- one word more than there may be states, any two apart
pub record IsTooMany (most : ℕ) (ks : List Answer) (words : List (List ℕ)) : Type 0 where
  pub count : length words ≡ most + 1
  pub crowd : IsCrowd ks words

-- a canonical model of no more states than there may be that agrees with the answers; words that are pairwise apart, as
-- many as its states, which show that no machine of fewer states does; and the size of its suite, which is above the
-- greatest
pub record IsTooLarge (a b k most : ℕ) (ks : List Answer) (model : MealyMachine) (number : ℕ) : Type 0 where
  pub inputs : model.inputs ≡ a
  pub outputs : model.outputs ≡ b
  pub complete : IsWithinLimits model
  pub few : length model.rows ≤ most
  pub canonical : IsCanonical a model.rows model.rows
  pub gives : Gives model.rows ks
  pub words : List (List ℕ)
  pub crowd : IsCrowd ks words
  pub each : length words ≡ length model.rows
  pub size : number ≡ suite_size (length model.rows) a k
  pub large : greatest_suite < number

-- what is so where a learning stops; of a stop of its oracle it says nothing more
abbrev pub StopsAs : ℕ → ℕ → ℕ → ℕ → List Answer → LearnStop → Type 0
StopsAs a b k most ks (learn.Ask stop) = Unit {0}
StopsAs a b k most ks (learn.Crowd words) = IsTooMany most ks words
StopsAs a b k most ks (learn.TooLarge model number) = IsTooLarge a b k most ks model number
