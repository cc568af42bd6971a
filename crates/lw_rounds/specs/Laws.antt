-- What the answers of a learning mean for the machines that agree with the recorded answers.
use Rattle.std.specs.Prelude.{ℕ, ◌+◌, ◌<◌, ◌≤◌, List, length}
use Rattle.lw_words.specs.Word.{Answer, AreAnswers}
use Rattle.lw_mealy.specs.Machine.{Gives, MealyMachine, Rows, IsMachine}
use Rattle.lw_separate.specs.Canonical.{IsCanonical}
use Rattle.lw_chunks.specs.Size.{suite_size, greatest_suite}
use Rattle.lw_rounds.specs.declared.learner.Kind.{Kind}
use Rattle.lw_rounds.specs.declared.learner.Learner.{Learner}
use Rattle.lw_rounds.specs.Learned.{IsCertified, IsLearned, IsTooMany, IsTooLarge}

-- a machine of at most k states more than the model that agrees with the answers has the model as its canonical form
abbrev pub ModelIsCanonical : Type 0
ModelIsCanonical = (a b k : ℕ) (ks : List Answer) (model : MealyMachine) → IsCertified a b k ks model → (m : Rows) → IsMachine a m → length m ≤ length model.rows + k → Gives m ks → IsCanonical a m model.rows

-- no machine of fewer states than the model agrees with the answers
abbrev pub ModelIsLeast : Type 0
ModelIsLeast = (kind : Kind) (a b k most : ℕ) (ks : List Answer) (model : MealyMachine) (l : Learner) → AreAnswers a ks → IsLearned kind a b k most ks model l → (m : Rows) → IsMachine a m → Gives m ks → length model.rows ≤ length m

-- where words are too many, no machine of as many states as there may be agrees with the answers
abbrev pub TooManyIsNone : Type 0
TooManyIsNone = (a most : ℕ) (ks : List Answer) (words : List (List ℕ)) → AreAnswers a ks → IsTooMany most ks words → (m : Rows) → IsMachine a m → length m ≤ most → ¬ Gives m ks

-- where a suite is too large, no machine of fewer states than the model agrees with the answers
abbrev pub TooLargeIsLeast : Type 0
TooLargeIsLeast = (a b k most : ℕ) (ks : List Answer) (model : MealyMachine) (number : ℕ) → AreAnswers a ks → IsTooLarge a b k most ks model number → (m : Rows) → IsMachine a m → Gives m ks → length model.rows ≤ length m

-- and a suite for each machine that agrees with them would be as large
abbrev pub TooLargeForAll : Type 0
TooLargeForAll = (a b k most : ℕ) (ks : List Answer) (model : MealyMachine) (number : ℕ) → AreAnswers a ks → IsTooLarge a b k most ks model number → (m : Rows) → IsMachine a m → Gives m ks → greatest_suite < suite_size (length m) a k
