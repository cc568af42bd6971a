-- Rows that are renumbered one after the other, in the vectors that hold them.
use Rattle.std.proofs.Common.{◌≡◌, ℕ, ◌+◌, ◌-◌, ◌<◌, ◌≤◌, ◌++◌, List, [], length, get_or, set, map, take, drop, sym, ap, ◌∙◌, subst, arith}
use Rattle.std.specs.List.{All}
use Rattle.std.proofs.lemmas.List.{get_or-append_right, get_or-drop, get_or-map, length-map, length-take-le, map-set}
use Rattle.std.proofs.lemmas.List.Edits.{map_over_more}
use Rattle.std.proofs.lemmas.List.Elements.{All-get_or, All-map}
use Rattle.lw_mealy.specs.Machine.{MealyMachine, mealy_of, IsWithinLimits, Row, Rows}
use Rattle.lw_mealy.specs.Renumbering.{renumbered_cell, renumbered_cells, renumbered_rows, AllRenumber}

-- in a list whose front was changed, what stands behind the front is as it was
not_yet : (g : Row → Row) (before now : Rows) (i : ℕ) → i < length before → now ≡ map g (take i before) ++ drop i before → get_or now i [] ≡ get_or before i []
not_yet g before now i lt is =
    let count : length (map g (take i before)) ≡ i = length-map (take i before) g ∙ length-take-le i before (omega arith) in
    let none : i - i ≡ 0 = omega arith in
    ap (λ (rows : Rows). get_or rows i []) is
    ∙ (get_or-append_right (map g (take i before)) (drop i before) i i [] count (omega arith)
    ∙ (get_or-drop i before (i - i) [] ∙ ap (λ (n : ℕ). get_or before n []) (omega (arith, none))))

module _ {X : Type 0} (f : X → Row) (g : Row → Row) (xs ys : List X) (i : ℕ) (x : X) (count : length ys ≡ length xs) (lt : i < length xs) (is : map f ys ≡ map g (take i (map f xs)) ++ drop i (map f xs)) (here : x ≡ get_or ys i x) where
  within : i < length (map f xs)
  within = rw (length-map xs f) lt

  among : i < length ys
  among = rw count lt

  -- the row that comes next is as it was
  same : f x ≡ get_or (map f xs) i []
  same = ap f here ∙ (sym (get_or-map f ys i x [] among) ∙ not_yet g (map f xs) (map f ys) i within is)

  pub row_holds : (P : Row → Type 0) → All P (map f xs) → P (f x)
  row_holds P all = subst P (sym same) (All-get_or P (map f xs) i [] within all)

  -- and is put back changed
  pub row_put : (new : X) → f new ≡ g (f x) → map f (set ys i new) ≡ map g (take (i + 1) (map f xs)) ++ drop (i + 1) (map f xs)
  row_put new e =
      let at : f x ≡ get_or (map f ys) i (f x) = ap f here ∙ sym (get_or-map f ys i x (f x) among) in
      map-set f ys i new
      ∙ (ap (λ (r : Row). set (map f ys) i r) e
      ∙ map_over_more g (map f xs) (map f ys) i (f x) within is at)

-- a machine whose outputs are renumbered below a bound is within its limits
pub renumbered_within : (t : MealyMachine) (outputs : ℕ) (to : List ℕ) → IsWithinLimits t → (1 ≤ outputs) × (outputs ≤ 4096) → AllRenumber outputs to t.rows → IsWithinLimits (mealy_of t.inputs outputs (renumbered_rows to t.rows))
renumbered_within t outputs to k few all =
    let n = length-map t.rows (renumbered_cells to) in
    record {
      inputs = k.inputs;
      outputs = few;
      few = rw n k.few;
      machine = record {
        some_state = rw n k.machine.some_state;
        complete = All-map (λ r. (length r ≡ t.inputs) × All (λ c. c.0 < length (renumbered_rows to t.rows)) r) (renumbered_cells to) t.rows (λ q d lt.
            let r = k.machine.complete q d lt in (
              length-map (get_or t.rows q d) (renumbered_cell to) ∙ r.0,
              All-map (λ c. c.0 < length (renumbered_rows to t.rows)) (renumbered_cell to) (get_or t.rows q d) (λ x e le. rw n (r.1 x e le)),
            ));
      };
      answers = All-map (λ r. All (λ c. c.1 < outputs) r) (renumbered_cells to) t.rows (λ q d lt. All-map (λ c. c.1 < outputs) (renumbered_cell to) (get_or t.rows q d) (λ x e le. (all q d lt x e le).1));
    }
