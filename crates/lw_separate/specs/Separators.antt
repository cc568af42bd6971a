-- The words that separate all states of a machine.
-- Source: the set W of Vasilevskii (1973) and Chow (1978).
use Rattle.std.specs.Prelude.{◌≡◌, ◌≢◌, ℕ, ◌<◌, ◌⊎◌, List, [], length, slice_index_or}
use Rattle.lw_mealy.specs.Machine.{Rows, out, Differ}
use Rattle.lw_separate.specs.Canonical.{IsLeastSeparating}

-- the first pair of states comes before the second: by the first state, then by the second
abbrev pub Earlier : ℕ × ℕ → ℕ × ℕ → Type 0
Earlier e f = (e.0 < f.0) ⊎ ((e.0 ≡ f.0) × (e.1 < f.1))

-- two states p < q
abbrev pub IsPair : Rows → ℕ × ℕ → Type 0
IsPair m pair = (pair.0 < pair.1) × (pair.1 < length m)

-- the least word that separates a pair of states
abbrev pub IsLeastOf : ℕ → Rows → ℕ × ℕ → List ℕ → Type 0
IsLeastOf a m pair w = IsLeastSeparating a m pair.0 pair.1 w

-- the outputs of a pair of states on a word are equal
abbrev pub AgreeOn : Rows → ℕ × ℕ → List ℕ → Type 0
AgreeOn m pair w = out m pair.0 w ≡ out m pair.1 w

-- a word of the list, the one at this place, has different outputs from the two states
abbrev pub SplitAt : Rows → List (List ℕ) → ℕ → ℕ → ℕ → Type 0
SplitAt m list p q place = (place < length list)
    × (out m p (slice_index_or list place []) ≢ out m q (slice_index_or list place []))

-- each word is the least that separates its pair of states, which no earlier word separates;
-- the pairs p < q are in order, by p, then by q;
-- each pair is separated by a word whose pair isn't later
pub record IsSeparators (a : ℕ) (m : Rows) (list : List (List ℕ)) : Type 0 where
  pub pairs : List (ℕ × ℕ)
  pub paired : length pairs ≡ length list
  pub states : (i : ℕ) → i < length list → IsPair m (slice_index_or pairs i (0, 0))
  pub least : (i : ℕ) → i < length list
      → IsLeastOf a m (slice_index_or pairs i (0, 0)) (slice_index_or list i [])
  pub needed : (i j : ℕ) → i < j → j < length list
      → AgreeOn m (slice_index_or pairs j (0, 0)) (slice_index_or list i [])
  pub rising : (i j : ℕ) → i < j → j < length list
      → Earlier (slice_index_or pairs i (0, 0)) (slice_index_or pairs j (0, 0))
  pub whole : (p q : ℕ) → p < q → q < length m
      → (i : ℕ) × SplitAt m list p q i × ¬ Earlier (p, q) (slice_index_or pairs i (0, 0))

-- a machine has one such list at most
abbrev pub OneSeparators : Type 0
OneSeparators = (a : ℕ) (m : Rows) (u v : List (List ℕ))
    → IsSeparators a m u → IsSeparators a m v → u ≡ v

-- where any two states differ there is such a list
abbrev pub SomeSeparators : Type 0
SomeSeparators = (a : ℕ) (m : Rows)
    → ((p q : ℕ) → p < q → q < length m → Differ a m p q)
    → (list : List (List ℕ)) × IsSeparators a m list
