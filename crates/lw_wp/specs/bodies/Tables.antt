-- Tables of numbers of words, as the code has them.
use Rattle.std.specs.Prelude.{◌≡◌, ℕ, ◌<◌, List, [], length, map, slice_index_or, Vec}
use Rattle.std.specs.List.{All}
use Rattle.std.specs.declared.alloc.Global.{Global}
use Rattle.lw_mealy.specs.Machine.{Rows}
use Rattle.lw_wp.specs.Identification.{identification_of}
use Rattle.lw_wp.specs.Tables.{Table, row_for}
use Rattle.lw_wp.specs.bodies.Chosen.{Chooses}

abbrev pub numbers_in : Vec (Vec (Vec ℕ Global) Global) Global → Table
numbers_in table = map (λ rows. map (λ row. row.items) rows.items) table.items

-- rows for each state, of numbers of words
pub record IsTable (h : Rows) (ends : List (List ℕ)) (table : Table) : Type 0 where
  pub long : length table ≡ length h
  pub below : (state left : ℕ) → All (λ i. i < length ends) (row_for table state left)

-- for each state one row, its identification set
pub record IsWpTable (h : Rows) (ends : List (List ℕ)) (table : Table) : Type 0 where
  pub long : length table ≡ length h
  pub single : (q : ℕ) → q < length table → length (slice_index_or table q []) ≡ 1
  pub each : (q : ℕ) → q < length table → Chooses ends (row_for table q 0) (identification_of h ends q)
