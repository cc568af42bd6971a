-- The first fault of rows that are to be a machine.
use Rattle.std.specs.Prelude.{◌≡◌, ℕ, ◌<◌, ◌≤◌, [], length}
use Rattle.std.specs.List.{All}
use Rattle.lw_words.specs.First.{FailsFirst}
use Rattle.lw_mealy.specs.Machine.{Rows, row, next, output}
use Rattle.lw_mealy.specs.declared.fault.MealyFault.{MealyFault}
use Rattle.lw_mealy.specs.declared.fault.MealyFault.TheVariants.{NoState, TooMany, Ragged, Target, Output, NoMemory}

-- 1 to 1,024 rows
abbrev pub IsCounted : Rows → Type 0
IsCounted m = (0 < length m) × (length m ≤ 1024)

-- each row has a pair for each of a letters
abbrev pub IsSquare : ℕ → Rows → Type 0
IsSquare a m = All (λ r. length r ≡ a) m

-- each next state is a state
abbrev pub TargetsAreStates : Rows → Type 0
TargetsAreStates m = All (λ r. All (λ c. c.0 < length m) r) m

-- P fails of the pair of this state and letter, and holds of each before it: by state, then by letter
abbrev pub CellFailsFirst : (ℕ × ℕ → Type 0) → Rows → ℕ → ℕ → Type 0
CellFailsFirst P m q x = FailsFirst (λ r. All P r) m q × FailsFirst P (row m q) x

-- the first fault, by kind, then by state, then by letter; a machine has none, and no rows have two
abbrev pub RowsHaveFault : ℕ → ℕ → Rows → MealyFault → Type 0
RowsHaveFault a b m NoState = m ≡ []
RowsHaveFault a b m (TooMany count) = (count ≡ length m) × (1024 < count)
RowsHaveFault a b m (Ragged q) = IsCounted m × FailsFirst (λ r. length r ≡ a) m q
RowsHaveFault a b m (Target q x t) = IsCounted m × IsSquare a m × CellFailsFirst (λ c. c.0 < length m) m q x × (t ≡ next m q x)
RowsHaveFault a b m (Output q x y) = IsCounted m × IsSquare a m × TargetsAreStates m × CellFailsFirst (λ c. c.1 < b) m q x × (y ≡ output m q x)
RowsHaveFault a b m NoMemory = Unit {0}
