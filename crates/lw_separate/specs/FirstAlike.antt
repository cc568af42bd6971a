-- The first pair of states that agree on all words.
-- Source: the equivalence of states of Moore (1956).
use Rattle.std.specs.Prelude.{ℕ, ◌<◌, length, Option, MatchOption}
use Rattle.lw_mealy.specs.Machine.{Rows, Differ}
use Rattle.lw_separate.specs.Separators.{Earlier}

-- two states p < q that agree on all words;
-- each earlier pair, by the first state, then by the second, differs
pub record AreFirstAlike (a : ℕ) (m : Rows) (pair : ℕ × ℕ) : Type 0 where
  pub rising : pair.0 < pair.1
  pub state : pair.1 < length m
  pub alike : ¬ Differ a m pair.0 pair.1
  pub first : (p q : ℕ) → p < q → q < length m → Earlier (p, q) pair → Differ a m p q

-- no two states agree on all words
abbrev pub AnyTwoDiffer : ℕ → Rows → Type 0
AnyTwoDiffer a m = (p q : ℕ) → p < q → q < length m → Differ a m p q

-- the first such pair, and none exactly where any two states differ
abbrev pub IsFirstAlike : ℕ → Rows → Option (ℕ × ℕ) → Type 0
IsFirstAlike a m pair = MatchOption pair (AnyTwoDiffer a m) (AreFirstAlike a m)
