-- The walk over the pairs of states, as far as it has come.
use Rattle.std.specs.Prelude.{◌≡◌, ℕ, ◌<◌, Bool, true, false, List, [], length, slice_index_or}
use Rattle.lw_mealy.specs.Machine.{Rows}
use Rattle.lw_separate.specs.Separators.{Earlier, IsPair, IsLeastOf, AgreeOn, SplitAt}

-- as separators, but only the pairs before the end are separated by a word whose pair isn't later
pub record SeparatesUpTo (a : ℕ) (m : Rows) (end : ℕ × ℕ) (list : List (List ℕ)) : Type 0 where
  pub pairs : List (ℕ × ℕ)
  pub paired : length pairs ≡ length list
  pub states : (i : ℕ) → i < length list → IsPair m (slice_index_or pairs i (0, 0))
  pub least : (i : ℕ) → i < length list
      → IsLeastOf a m (slice_index_or pairs i (0, 0)) (slice_index_or list i [])
  pub needed : (i j : ℕ) → i < j → j < length list
      → AgreeOn m (slice_index_or pairs j (0, 0)) (slice_index_or list i [])
  pub rising : (i j : ℕ) → i < j → j < length list
      → Earlier (slice_index_or pairs i (0, 0)) (slice_index_or pairs j (0, 0))
  pub before : (i : ℕ) → i < length list → Earlier (slice_index_or pairs i (0, 0)) end
  pub whole : (p q : ℕ) → p < q → q < length m → Earlier (p, q) end
      → (i : ℕ) × SplitAt m list p q i × ¬ Earlier (p, q) (slice_index_or pairs i (0, 0))

-- whether some word of the list separates the states
abbrev pub Splits : Rows → List (List ℕ) → ℕ → ℕ → Bool → Type 0
Splits m list p q true = (i : ℕ) × SplitAt m list p q i
Splits m list p q false = (i : ℕ) → i < length list → AgreeOn m (p, q) (slice_index_or list i [])
