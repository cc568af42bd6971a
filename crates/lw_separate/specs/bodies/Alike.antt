-- States that agree on all words.
use Rattle.std.specs.Prelude.{ℕ, ◌<◌, length, Option, MatchOption}
use Rattle.lw_mealy.specs.Machine.{Rows, Differ}

-- the least state after p that agrees with it on all words
pub record IsNextAlike (a : ℕ) (m : Rows) (p q : ℕ) : Type 0 where
  pub after : p < q
  pub state : q < length m
  pub alike : ¬ Differ a m p q
  pub least : (r : ℕ) → p < r → r < q → Differ a m p r

-- each later state differs
abbrev pub LaterDiffer : ℕ → Rows → ℕ → Type 0
LaterDiffer a m p = (q : ℕ) → p < q → q < length m → Differ a m p q

abbrev pub IsAlikeAfter : ℕ → Rows → ℕ → Option ℕ → Type 0
IsAlikeAfter a m p q = MatchOption q (LaterDiffer a m p) (IsNextAlike a m p)
