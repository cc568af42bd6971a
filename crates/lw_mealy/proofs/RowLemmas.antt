-- Rows of a machine, read by place from the vectors that hold them.
use Rattle.std.proofs.Common.{◌≡◌, ℕ, ◌<◌, List, [], length, get_or, map, subst, sym, ◌∙◌, ap}
use Rattle.std.specs.List.{All, AllWithin}
use Rattle.std.proofs.lemmas.List.Elements.{All-get_or}
use Rattle.std.proofs.lemmas.List.{get_or-map, get_or_default, length-map}
use Rattle.lw_words.specs.First.{FailsFirst}
use Rattle.lw_words.proofs.Lists.{read-map}
use Rattle.lw_mealy.specs.Fault.{CellFailsFirst}
use Rattle.lw_mealy.specs.Machine.{Row, Rows, IsMachine, row, cell, MealyMachine, IsWithinLimits}

-- what a machine keeps of each row
abbrev IsRow : ℕ → ℕ → Row → Type 0
IsRow a n r = (length r ≡ a) × All (λ c. c.0 < n) r

pub is_row : (a : ℕ) (m : Rows) (q : ℕ) → IsMachine a m → q < length m → (length (row m q) ≡ a) × All (λ c. c.0 < length m) (row m q)
is_row a m q k lt = let r : IsRow a (length m) (row m q) = All-get_or (IsRow a (length m)) m q [] lt k.complete in r

pub target_below : (a : ℕ) (m : Rows) (q x : ℕ) → IsMachine a m → q < length m → x < a → (cell m q x).0 < length m
target_below a m q x k lt le =
    let r = is_row a m q k lt in
    let le' : x < length (row m q) = rw r.0 le in
    All-get_or (λ c. c.0 < length m) (row m q) x (0, 0) le' r.1

pub output_below : (t : MealyMachine) (q x : ℕ) → IsWithinLimits t → q < length t.rows → x < t.inputs → (cell t.rows q x).1 < t.outputs
output_below t q x k lt le =
    let le' : x < length (row t.rows q) = rw (is_row t.inputs t.rows q k.machine lt).0 le in
    let r : All (λ c. c.1 < t.outputs) (row t.rows q) = All-get_or (λ r. All (λ c. c.1 < t.outputs) r) t.rows q [] lt k.answers in
    All-get_or (λ c. c.1 < t.outputs) (row t.rows q) x (0, 0) le' r

module _ {X : Type 0} (f : X → Row) where
  -- a row that is read from the rows' own vectors
  pub read_row : (m : Rows) (xs : List X) (q : ℕ) (r : X) → map f xs ≡ m → q < length m → r ≡ get_or xs q r → f r ≡ row m q
  read_row m xs q r is lt at =
      let lt' : q < length xs = rw (← length-map xs f, is) lt in
      ap f at ∙ (sym (get_or-map f xs q r [] lt') ∙ ap (λ (n : Rows). row n q) is)

  -- a cell that is read from its row's vector
  pub read_cell : (a : ℕ) (m : Rows) (xs : List X) (q x : ℕ) (r : X) (c : ℕ × ℕ) → IsMachine a m → map f xs ≡ m → q < length m → x < a → r ≡ get_or xs q r → c ≡ get_or (f r) x c → c ≡ cell m q x
  read_cell a m xs q x r c k is lt le at then =
      let e : f r ≡ row m q = read_row m xs q r is lt at in
      let le' : x < length (f r) = rw (e, (is_row a m q k lt).0) le in
      then ∙ (get_or_default (f r) x c (0, 0) le' ∙ ap (λ (s : Row). get_or s x (0, 0)) e)

  -- the first failure in the first row that has one
  pub cell_fails : (P : ℕ × ℕ → Type 0) (xs : List X) (q x : ℕ) (r : X) → q < length xs → r ≡ get_or xs q r → AllWithin (λ s. All P s) (map f xs) 0 q → FailsFirst P (f r) x → CellFailsFirst P (map f xs) q x
  cell_fails P xs q x r lt at before here =
      let e : row (map f xs) q ≡ f r = read-map f xs q r [] lt at in
      let lt' : q < length (map f xs) = rw (length-map xs f) lt in (
        record {
          within = lt';
          fails = λ d all. here.fails (0, 0) (subst (λ (s : Row). All P s) (read-map f xs q r d lt at) all x (0, 0) here.within);
          before = before;
        },
        subst (λ (s : Row). FailsFirst P s x) (sym e) here,
      )
