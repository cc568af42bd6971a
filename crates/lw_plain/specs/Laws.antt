-- What is so of each learner by its definition.
use Rattle.std.specs.Prelude.{◌≡◌, ℕ, ◌+◌, ◌<◌, ◌≤◌, Bool, true, false, List, ◌++◌, length, Some, Contains}
use Rattle.std.specs.List.{All}
use Rattle.lw_mealy.specs.Machine.{Rows}
use Rattle.lw_plain.specs.Table.{PlainTable, Search, row_words, first_new, close, search_cut}
use Rattle.lw_plain.specs.Rounds.{Task, IsTableAfter, asked_words}

-- where a row is new in a table that was closed, all access words that were allowed were added
abbrev pub CrowdIsFull : Type 0
CrowdIsFull = (a : ℕ) (m : Rows) (n : ℕ) (t : PlainTable) (r : List ℕ) → first_new a m (close a m n t) ≡ Some r
    → length (close a m n t).access ≡ length t.access + n

-- two places, of which machines agree on the upper alone
pub record IsBetween (agrees : ℕ → Bool) (s : Search) : Type 0 where
  pub order : s.low < s.high
  pub differs : agrees s.low ≡ false
  pub agree : agrees s.high ≡ true

-- as many tries as there are places between two suffice: two neighbours are left, of which machines agree on the upper alone
abbrev pub SearchFinds : Type 0
SearchFinds = (agrees : ℕ → Bool) (n : ℕ) (s : Search) → IsBetween agrees s → s.high ≤ s.low + n
    → IsBetween agrees (search_cut agrees n s) × ((search_cut agrees n s).high ≡ (search_cut agrees n s).low + 1)

-- the words have each of these rows with each of these suffixes behind it
abbrev pub HoldCells : List (List ℕ) → List (List ℕ) → List (List ℕ) → Type 0
HoldCells rows suffixes words = All (λ r. All (λ e. Contains words (r ++ e)) suffixes) rows

-- the word of each cell of the learner's table is in a batch
abbrev pub CellsAreAsked : Type 0
CellsAreAsked = (task : Task) (given : List (List ℕ)) (n : ℕ) (t : PlainTable) → IsTableAfter task given n t
    → HoldCells (row_words task.letters t.access) t.suffixes (asked_words t.batches)
