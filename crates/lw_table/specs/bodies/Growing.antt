-- The steps by which a table grows.
use Rattle.std.specs.Prelude.{◌≡◌, ℕ, ◌+◌, ◌<◌, ◌≤◌, List, [], ◌∷◌, ◌++◌, length, replicate}
use Rattle.lw_table.specs.Table.{TableState, row_at, access_row}
use Rattle.lw_table.specs.bodies.Filling.{with_cells}
use Rattle.lw_table.specs.bodies.Rows.{IsRowWord}

-- each row before this one has a cell for each suffix
abbrev pub AreFullBelow : TableState → ℕ → Type 0
AreFullBelow t below = (j : ℕ) → j < below → length (row_at t j) ≡ length t.suffixes

abbrev pub AreFull : TableState → Type 0
AreFull t = AreFullBelow t (length t.cells)

-- the row is an access word's
abbrev pub HasState : TableState → ℕ → Type 0
HasState t j = (p : ℕ) × (p < length t.access) × (row_at t j ≡ access_row t p)

-- each row from one to another is
abbrev pub HaveStates : TableState → ℕ → ℕ → Type 0
HaveStates t from to = (j : ℕ) → from ≤ j → j < to → HasState t j

-- nothing but the cells changed
abbrev pub ChangesCells : TableState → TableState → Type 0
ChangesCells before now = now ≡ with_cells before now.cells

-- a table with an access word more, whose extensions have no cells
abbrev pub with_access : TableState → List ℕ → ℕ → TableState
with_access t word row = record (t) { access = t.access ++ word ∷ []; cells = t.cells ++ replicate t.inputs []; homes = t.homes ++ row ∷ [] }

-- the word of a row was added
pub record HasAdded (row : ℕ) (before now : TableState) : Type 0 where
  pub word : List ℕ
  pub of_row : IsRowWord before.inputs before.access row word
  pub is : now ≡ with_access before word row

-- a table with a suffix more
abbrev pub with_suffix : TableState → List ℕ → TableState
with_suffix t suffix = record (t) { suffixes = t.suffixes ++ suffix ∷ [] }

-- a table that was refined once more
abbrev pub refined_once : TableState → TableState
refined_once t = record (t) { refinements = t.refinements + 1 }
