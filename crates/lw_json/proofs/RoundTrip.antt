-- The value that is written for a machine spells that machine.
use Rattle.std.proofs.Common.{◌≡◌, ℕ, suc, ◌<◌, ◌≤◌, List, [], ◌∷◌, Bool, length, map, slice_index_or, Option, Some, None, option_and_then, nat_lt, if◌then◌else◌, refl, ap, ◌∙◌, arith}
use Rattle.std.specs.List.{All}
use Rattle.std.proofs.lemmas.Bool.Decides.{Decides-ltb}
use Rattle.std.proofs.lemmas.List.{map-id}
use Rattle.std.proofs.lemmas.Option.{slice_get-get_or}
use Rattle.serde_json.specs.Data.{Data, string, array, depth, items_depth}
use Rattle.serde_json.specs.View.{items_of}
use Rattle.serde_json.specs.Find.{as_str}
use Rattle.lw_words.specs.Word.{AllDiffer, number_of}
use Rattle.lw_words.proofs.NumberLemmas.{number_at_place}
use Rattle.lw_mealy.specs.Machine.{Row, Rows}
use Rattle.lw_json.specs.Formats.{each_of, WrittenMachine, SaysMachine, SpellsMachine, IsNamed, cell_of, row_of, numbered_cell, numbered_rows, array_of}
use Rattle.lw_json.specs.MachineText.{texts_data, cell_data, row_data, rows_data, machine_data}
use Rattle.lw_json.specs.declared.files.Machine.{Machine}
use Rattle.lw_json.proofs.EachLemmas.{values-items_of}

-- a list that is written by f is read by g, element by element
module _ {X D Y : Type 0} (f : X → D) (g : D → Option Y) (h : X → Y) (P : X → Type 0) (same : (x : X) → P x → g (f x) ≡ Some (h x)) where
  pub each_of-map : (xs : List X) → All P xs → each_of g (map f xs) ≡ Some (map h xs)
  each_of-map [] a = refl
  each_of-map (x ∷ xs) a = rw (same x (a 0 x (omega arith)), each_of-map xs (λ k d lt. a (suc k) d (omega arith))) refl

module _ {X Y : Type 0} (f : X → Data) (g : Data → Option Y) (h : X → Y) (P : X → Type 0) (same : (x : X) → P x → g (f x) ≡ Some (h x)) where
  pub read_list : (xs : List X) → All P xs → option_and_then (each_of g) (array_of (array (items_of (map f xs)))) ≡ Some (map h xs)
  read_list xs a = ap (each_of g) (values-items_of (map f xs)) ∙ each_of-map f g h P same xs a

each_text : (texts : List (List ℕ)) → each_of as_str (map string texts) ≡ Some texts
each_text [] = refl
each_text (t ∷ ts) = rw (each_text ts) refl

pub read_texts : (texts : List (List ℕ)) → option_and_then (each_of as_str) (array_of (texts_data texts)) ≡ Some texts
read_texts texts = ap (each_of as_str) (values-items_of (map string texts)) ∙ each_text texts

-- a cell within the limits
abbrev IsCell : List (List ℕ) → ℕ × ℕ → Type 0
IsCell outputs c = (c.0 < 65536) × (c.1 < length outputs)

-- a cell with its output's name
abbrev named_cell : List (List ℕ) → ℕ × ℕ → ℕ × List ℕ
named_cell outputs c = (c.0, slice_index_or outputs c.1 [])

module _ (outputs : List (List ℕ)) (differ : AllDiffer outputs) where
  small : (n : ℕ) → n < 65536 → (if nat_lt n 65536 then Some n else None) ≡ Some n
  small n lt = ap (λ (b : Bool). if b then Some n else None) ((Decides-ltb n 65536).1 lt)

  read_cell : (c : ℕ × ℕ) → IsCell outputs c → cell_of (cell_data outputs c) ≡ Some (named_cell outputs c)
  read_cell c h = rw (small c.0 h.0) refl

  read_row : (r : Row) → All (IsCell outputs) r → row_of (row_data outputs r) ≡ Some (map (named_cell outputs) r)
  read_row r h = read_list (cell_data outputs) cell_of (named_cell outputs) (IsCell outputs) read_cell r h

  read_rows : (rows : Rows) → All (All (IsCell outputs)) rows → option_and_then (each_of row_of) (array_of (rows_data outputs rows)) ≡ Some (map (map (named_cell outputs)) rows)
  read_rows rows h = read_list (row_data outputs) row_of (map (named_cell outputs)) (All (IsCell outputs)) read_row rows h

  named_output : (n : ℕ) → n < length outputs → number_of (slice_index_or outputs n []) outputs ≡ Some n
  named_output n lt = number_at_place outputs n (slice_index_or outputs n []) differ (slice_get-get_or outputs n [] lt)

  number_cell : (c : ℕ × ℕ) → IsCell outputs c → numbered_cell outputs (named_cell outputs c) ≡ Some c
  number_cell c h = rw (named_output c.1 h.1) refl

  number_row : (r : Row) → All (IsCell outputs) r → each_of (numbered_cell outputs) (map (named_cell outputs) r) ≡ Some r
  number_row r h = each_of-map (named_cell outputs) (numbered_cell outputs) (λ c. c) (IsCell outputs) number_cell r h ∙ ap (λ (l : Row). Some l) (map-id r)

  number_rows : (rows : Rows) → All (All (IsCell outputs)) rows → numbered_rows outputs (map (map (named_cell outputs)) rows) ≡ Some rows
  number_rows rows h = each_of-map (map (named_cell outputs)) (each_of (numbered_cell outputs)) (λ r. r) (All (IsCell outputs)) number_row rows h ∙ ap (λ (l : Rows). Some l) (map-id rows)

-- the cells of a table are within the limits
cells : (m : Machine) → IsNamed m → All (All (IsCell m.outputs)) m.mealy.rows
cells m named =
    let t = named.complete in
    let same = named.answers in
    let few = t.few in
    λ k d lt i e l.
    let target = (t.machine.complete k d lt).1 i e l in
    let answer = t.answers k d lt i e l in
    (omega arith, omega arith)

-- what is written for a machine
abbrev pub written_of : Machine → WrittenMachine
written_of m = record { inputs = m.inputs; outputs = m.outputs; states = map (map (named_cell m.outputs)) m.mealy.rows }

-- the value that is written for a machine says and spells it
pub says_it : (m : Machine) → IsNamed m → SaysMachine (machine_data m) (written_of m)
says_it m named =
    record {
      inputs = read_texts m.inputs;
      outputs = read_texts m.outputs;
      states = read_rows m.outputs named.outputs.differ m.mealy.rows (cells m named);
    }

pub spelled : (m : Machine) → IsNamed m → SpellsMachine (written_of m) m
spelled m named =
    record {
      inputs = refl;
      outputs = refl;
      states = number_rows m.outputs named.outputs.differ m.mealy.rows (cells m named);
      named = named;
    }

-- how deep it nests
module _ {X : Type 0} (f : X → Data) (n : ℕ) (each : (x : X) → depth (f x) ≤ n) where
  pub shallow : (xs : List X) → items_depth (items_of (map f xs)) ≤ n
  shallow [] = omega arith
  shallow (x ∷ xs) =
      let one = each x in
      let more = shallow xs in
      omega arith

pub machine_depth : (m : Machine) → depth (machine_data m) ≤ 127
machine_depth m =
    let inputs = shallow string 0 (λ _. omega arith) m.inputs in
    let outputs = shallow string 0 (λ _. omega arith) m.outputs in
    let rows = shallow (row_data m.outputs) 2 (λ r. let inner = shallow (cell_data m.outputs) 1 (λ _. omega arith) r in omega arith) m.mealy.rows in
    omega arith
