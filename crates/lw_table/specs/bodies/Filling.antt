-- How cells are asked and filled.
use Rattle.std.specs.Prelude.{◌≡◌, ℕ, ◌+◌, ◌<◌, ◌≤◌, List, ◌++◌, length, drop}
use Rattle.std.specs.List.{All}
use Rattle.lw_words.specs.Word.{Answer}
use Rattle.lw_cache.specs.Cut.{word_at}
use Rattle.lw_cache.specs.Known.{Reads}
use Rattle.lw_table.specs.Table.{TableState, row_at}
use Rattle.lw_table.specs.bodies.Classes.{row_of}
use Rattle.lw_table.specs.bodies.Rows.{IsRowWord, class_at, cells_at}
use Rattle.lw_table.specs.declared.rows.Row.{Row}

-- the property holds of the word with each suffix from one number to another
abbrev pub EachCell : (List ℕ → Type 0) → List (List ℕ) → List ℕ → ℕ → ℕ → Type 0
EachCell P suffixes word from to = (k : ℕ) → from ≤ k → k < to → P (word ++ word_at suffixes k)

-- and that of each row's word, from one row to another, with each suffix that it has no cell of
abbrev pub EachRow : (List ℕ → Type 0) → ℕ → List (List ℕ) → List (List ℕ) → List Row → ℕ → ℕ → Type 0
EachRow P a access suffixes rows from to = (j : ℕ) (w : List ℕ) → from ≤ j → j < to → IsRowWord a access j w → EachCell P suffixes w (cells_at rows j) (length suffixes)

-- a cell has the last outputs of what is read of the word followed by the suffix
abbrev pub IsCellOf : List Answer → List ℕ → List ℕ → List ℕ → Type 0
IsCellOf ks word suffix cell = (o : List ℕ) × Reads ks (word ++ suffix) o × (cell ≡ drop (length word) o)

-- a row goes on by what is read of its word with each suffix
pub record GoesOn (ks : List Answer) (suffixes : List (List ℕ)) (word : List ℕ) (before now : List (List ℕ)) : Type 0 where
  pub cells : List (List ℕ)
  pub longer : now ≡ before ++ cells
  pub each : (k : ℕ) → length before ≤ k → k < length now → IsCellOf ks word (word_at suffixes k) (word_at now k)

-- rows of classes that were there before, and each of which goes on to a cell for each suffix
pub record GoOn (ks : List Answer) (a : ℕ) (access suffixes : List (List ℕ)) (before : List (List (List ℕ))) (rows : List Row) (first : ℕ) (now : List (List (List ℕ))) (filled : List Row) : Type 0 where
  pub within : All (λ r. r.class < length now) filled
  pub counts : All (λ r. r.cells ≡ length (row_of now r.class)) filled
  pub whole : All (λ r. r.cells ≡ length suffixes) filled
  pub each : (i : ℕ) (w : List ℕ) → i < length filled → IsRowWord a access (first + i) w → GoesOn ks suffixes w (row_of before (class_at rows (first + i))) (row_of now (class_at filled i))

-- the same table with other cells
abbrev pub with_cells : TableState → List (List (List ℕ)) → TableState
with_cells t cells = record (t) { cells = cells }

-- each row goes on to a cell for each suffix
pub record HasFilled (ks : List Answer) (t : TableState) (cells : List (List (List ℕ))) : Type 0 where
  pub size : length cells ≡ length t.cells
  pub full : (j : ℕ) → j < length cells → length (row_of cells j) ≡ length t.suffixes
  pub each : (j : ℕ) (w : List ℕ) → j < length cells → IsRowWord t.inputs t.access j w → GoesOn ks t.suffixes w (row_at t j) (row_of cells j)
