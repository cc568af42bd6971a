-- The words of rows, and tables whose rows are kept by class.
use Rattle.std.specs.Prelude.{◌≡◌, ◌≢◌, ◌⊎◌, ℕ, ◌<◌, nat_eq, List, [], ◌∷◌, ◌++◌, length, map, slice_index_or, Option}
use Rattle.std.specs.List.{All, AllPairs}
use Rattle.lw_cache.specs.Cut.{word_at}
use Rattle.lw_table.specs.Table.{TableState, row_number}
use Rattle.lw_table.specs.bodies.Classes.{row_of}
use Rattle.lw_table.specs.bodies.Numbered.{AreNumbered}
use Rattle.lw_table.specs.declared.rows.Row.{Row}

-- row 0 is of the empty word, each other one of an access word followed by a letter
abbrev pub IsRowWord : ℕ → List (List ℕ) → ℕ → List ℕ → Type 0
IsRowWord a access j w = ((j ≡ 0) × (w ≡ [])) ⊎ ((q : ℕ) × (x : ℕ) × (q < length access) × (x < a) × (j ≡ row_number a q x) × (w ≡ word_at access q ++ x ∷ []))

abbrev pub no_cells : Row
no_cells = record { class = 0; cells = 0 }

abbrev pub class_at : List Row → ℕ → ℕ
class_at rows j = (slice_index_or rows j no_cells).class

abbrev pub cells_at : List Row → ℕ → ℕ
cells_at rows j = (slice_index_or rows j no_cells).cells

-- a table whose rows are of these classes
abbrev pub table_of : ℕ → ℕ → ℕ → List (List ℕ) → List (List ℕ) → List (List (List ℕ)) → List Row → List ℕ → ℕ → TableState
table_of inputs outputs most access suffixes classes rows homes refinements = record {
  inputs = inputs;
  outputs = outputs;
  most = most;
  access = access;
  suffixes = suffixes;
  cells = map (λ r. row_of classes r.class) rows;
  homes = homes;
  refinements = refinements;
}

-- class 0 has no cells, and no two classes have one row; each row has a class and this many cells; and the class of
-- each access word's row is found
pub record AreIndexed (classes : List (List (List ℕ))) (rows : List Row) (homes : List ℕ) (find : ℕ → Option ℕ) : Type 0 where
  pub some : 0 < length classes
  pub first : row_of classes 0 ≡ []
  pub differ : AllPairs (λ r s. r ≢ s) classes
  pub within : All (λ r. r.class < length classes) rows
  pub counts : All (λ r. r.cells ≡ length (row_of classes r.class)) rows
  pub states : AreNumbered nat_eq (map (class_at rows) homes) find
