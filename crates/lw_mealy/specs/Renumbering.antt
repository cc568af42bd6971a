-- Machines with their outputs under other numbers.
use Rattle.std.specs.Prelude.{ℕ, ◌<◌, List, length, map, slice_index_or}
use Rattle.std.specs.List.{All}
use Rattle.lw_mealy.specs.Machine.{Row, Rows}

-- each output replaced by the number that a list has at its place
abbrev pub renumbered_cell : List ℕ → ℕ × ℕ → ℕ × ℕ
renumbered_cell to c = (c.0, slice_index_or to c.1 0)

abbrev pub renumbered_cells : List ℕ → Row → Row
renumbered_cells to r = map (renumbered_cell to) r

abbrev pub renumbered_rows : List ℕ → Rows → Rows
renumbered_rows to m = map (renumbered_cells to) m

-- each output of the machine has its place in the list, and there a number below the bound
abbrev pub AllRenumber : ℕ → List ℕ → Rows → Type 0
AllRenumber outputs to m = All (λ r. All (λ c. (c.1 < length to) × (slice_index_or to c.1 0 < outputs)) r) m
