-- The targets and outputs of a closed table's states.
use Rattle.std.specs.Prelude.{◌≡◌, ℕ, ◌<◌, List, [], ◌∷◌, length, slice_index_or}
use Rattle.lw_mealy.specs.Machine.{Row}
use Rattle.lw_cache.specs.Cut.{word_at}
use Rattle.lw_table.specs.Table.{TableState, access_row, extension_row}

-- at the letter, the access word with the extension's row, and the output of the cell of that letter
pub record IsTransition (t : TableState) (state letter : ℕ) (target out : ℕ) : Type 0 where
  pub within : target < length t.access
  pub row : extension_row t state letter ≡ access_row t target
  pub cell : word_at (access_row t state) letter ≡ out ∷ []

-- those of the first letters
abbrev pub AreTransitionsTo : TableState → ℕ → ℕ → Row → Type 0
AreTransitionsTo t state letters row = (length row ≡ letters) × ((x : ℕ) → x < letters → IsTransition t state x (slice_index_or row x (0, 0)).0 (slice_index_or row x (0, 0)).1)

-- those of each letter
abbrev pub AreTransitions : TableState → ℕ → Row → Type 0
AreTransitions t state row = AreTransitionsTo t state t.inputs row

-- and of the states before one
abbrev pub AreStates : TableState → ℕ → List Row → Type 0
AreStates t states rows = (length rows ≡ states) × ((q : ℕ) → q < states → AreTransitions t q (slice_index_or rows q []))
