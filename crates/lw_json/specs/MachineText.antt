-- The one text that is written for a machine.
use Rattle.std.specs.Prelude.{ℕ, List, [], ◌∷◌, ◌++◌, map, codes, slice_index_or}
use Rattle.serde_json.specs.Data.{Data, array, string, number, unsigned, object, member, no_members}
use Rattle.serde_json.specs.View.{items_of}
use Rattle.serde_json.specs.Written.{compact_text}
use Rattle.lw_mealy.specs.Machine.{Row, Rows}
use Rattle.lw_json.specs.declared.files.Machine.{Machine}

abbrev pub texts_data : List (List ℕ) → Data
texts_data texts = array (items_of (map string texts))

-- a cell: the target and the name of the output
abbrev pub cell_data : List (List ℕ) → ℕ × ℕ → Data
cell_data outputs c = array (items_of (number (unsigned c.0) ∷ string (slice_index_or outputs c.1 []) ∷ []))

abbrev pub row_data : List (List ℕ) → Row → Data
row_data outputs r = array (items_of (map (cell_data outputs) r))

abbrev pub rows_data : List (List ℕ) → Rows → Data
rows_data outputs m = array (items_of (map (row_data outputs) m))

-- exactly three members, in the order of their names' bytes
abbrev pub machine_data : Machine → Data
machine_data m = object (member (codes "inputs") (texts_data m.inputs) (member (codes "outputs") (texts_data m.outputs) (member (codes "states") (rows_data m.outputs m.mealy.rows) no_members)))

-- serde_json's compact text and a line feed
abbrev pub written_text : Machine → List ℕ
written_text m = compact_text (machine_data m) ++ 10 ∷ []
