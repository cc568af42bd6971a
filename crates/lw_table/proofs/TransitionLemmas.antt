-- The targets and outputs of a closed table's states.
use Rattle.std.proofs.Common.{◌≡◌, ⊎_elim, ℕ, zero, suc, ◌+◌, ◌<◌, ◌≤◌, List, [], ◌∷◌, ◌++◌, length, get_or, refl, ap, sym, ◌∙◌, subst, arith}
use Rattle.std.specs.List.{All}
use Rattle.std.proofs.Math.ListN.{get_or-append}
use Rattle.std.proofs.Math.Seq.{get_or-append_seam}
use Rattle.std.proofs.lemmas.Bool.{cases_lt}
use Rattle.std.proofs.lemmas.List.{length-append}
use Rattle.std.proofs.lemmas.List.Elements.{All-from_get_or}
use Rattle.lw_words.specs.Word.{IsWord}
use Rattle.lw_mealy.specs.Machine.{IsWithinLimits, mealy_of, Row, Rows, next, output}
use Rattle.lw_cache.specs.Cut.{word_at}
use Rattle.lw_table.specs.Table.{TableState, home_at, access_row, IsTable, IsClosedTable, IsMachineOf}
use Rattle.lw_table.specs.Laws.{HasMachine}
use Rattle.lw_table.specs.bodies.Transitions.{IsTransition, AreTransitionsTo, AreTransitions, AreStates}
use Rattle.lw_table.proofs.CellLemmas.{enough_suffixes, letter_suffix}
use Rattle.lw_table.proofs.FilledLemmas.{homes_in}

module _ (t : TableState) (g : IsTable t) (closed : IsClosedTable t) (q : ℕ) (lt : q < length t.access) where
  full : length (access_row t q) ≡ length t.suffixes
  full = closed.filled (home_at t q) [] (homes_in t g q lt)

  pub letters_inside : t.inputs ≤ length (access_row t q)
  letters_inside = let e = enough_suffixes t g in omega (arith, full, e)

  pub single_cell : (k : ℕ) → k < t.inputs → length (word_at (access_row t q) k) ≡ 1
  single_cell k small =
      (g.shape (home_at t q) [] (homes_in t g q lt)).whole k (omega (arith, small, letters_inside)) ∙ ap (λ (w : List ℕ). length w) (letter_suffix t g k small)

-- one letter more
pub transitions_more : (t : TableState) (q x target out : ℕ) (row now : Row) → AreTransitionsTo t q x row → IsTransition t q x target out → now ≡ row ++ (target, out) ∷ [] → AreTransitionsTo t q (x + 1) now
transitions_more t q x target out row now was here grown =
    subst (AreTransitionsTo t q (x + 1)) (sym grown) (
      length-append row ((target, out) ∷ []) ∙ ap (λ (n : ℕ). n + 1) was.0,
      λ y lt. ⊎_elim
          (λ (below : y < x). subst (λ (c : ℕ × ℕ). IsTransition t q y c.0 c.1) (sym (get_or-append row ((target, out) ∷ []) (0, 0) y (let s = was.0 in omega (arith, s, below)))) (was.1 y below))
          (λ (above : x ≤ y).
          let at : y ≡ length row = (let s = was.0 in omega (arith, s, above, lt)) in
          subst (λ (z : ℕ). IsTransition t q z (get_or (row ++ (target, out) ∷ []) z (0, 0)).0 (get_or (row ++ (target, out) ∷ []) z (0, 0)).1) (sym at)
          (subst (λ (c : ℕ × ℕ). IsTransition t q (length row) c.0 c.1) (sym (get_or-append_seam row (target, out) [] (0, 0))) (subst (λ (z : ℕ). IsTransition t q z target out) (sym was.0) here)))
          (cases_lt y x),
    )

-- one state more
pub states_more : (t : TableState) (q : ℕ) (row : Row) (rows now : List Row) → AreStates t q rows → AreTransitions t q row → now ≡ rows ++ row ∷ [] → AreStates t (q + 1) now
states_more t q row rows now was here grown =
    subst (AreStates t (q + 1)) (sym grown) (
      length-append rows (row ∷ []) ∙ ap (λ (n : ℕ). n + 1) was.0,
      λ p lt. ⊎_elim
          (λ (below : p < q). subst (AreTransitions t p) (sym (get_or-append rows (row ∷ []) [] p (let s = was.0 in omega (arith, s, below)))) (was.1 p below))
          (λ (above : q ≤ p).
          let at : p ≡ length rows = (let s = was.0 in omega (arith, s, above, lt)) in
          subst (λ (z : ℕ). AreTransitions t z (get_or (rows ++ row ∷ []) z [])) (sym at)
          (subst (AreTransitions t (length rows)) (sym (get_or-append_seam rows row [] [])) (subst (λ (z : ℕ). AreTransitions t z row) (sym was.0) here)))
          (cases_lt p q),
    )

-- all states are the machine
module _ (t : TableState) (rows : Rows) (g : IsTable t) (closed : IsClosedTable t) (all : AreStates t (length t.access) rows) where
  at : (q x : ℕ) → q < length t.access → x < t.inputs → IsTransition t q x (next rows q x) (output rows q x)
  at q x lt small = (all.1 q lt).1 x small

  pub is_machine_of : IsMachineOf t rows
  is_machine_of =
      record {
        states = all.0;
        complete = All-from_get_or (λ r. length r ≡ t.inputs) rows [] (λ q lt. (all.1 q (let s = all.0 in omega (arith, lt, s))).0);
        outs = λ q x lt small. (at q x lt small).cell;
        within = λ q x lt small. (at q x lt small).within;
        targets = λ q x lt small. (at q x lt small).row;
      }

  out_below : (q x : ℕ) → q < length t.access → x < t.inputs → output rows q x < t.outputs
  out_below q x lt small =
      let shape = g.shape (home_at t q) [] (homes_in t g q lt) in
      let inside : x < length (access_row t q) = (let l = letters_inside t g closed q lt in omega (arith, small, l)) in
      subst (IsWord t.outputs) (at q x lt small).cell (shape.below x [] inside) 0 0 (omega arith)

  pub within_limits : IsWithinLimits (mealy_of t.inputs t.outputs rows)
  within_limits =
      record {
        inputs = g.inputs;
        outputs = g.outputs;
        few = let s = all.0 in let f = g.few in let m = g.most in omega (arith, s, f, m.1);
        machine = record {
          some_state = let s = all.0 in omega (arith, s, g.some);
          complete = All-from_get_or (λ r. (length r ≡ t.inputs) × All (λ c. c.0 < length rows) r) rows [] (λ q lt.
              let le : q < length t.access = (let s = all.0 in omega (arith, lt, s)) in
              let row = all.1 q le in
              (row.0, All-from_get_or (λ c. c.0 < length rows) (get_or rows q []) (0, 0) (λ x small. let w = (row.1 x (let s = row.0 in omega (arith, small, s))).within in let s = all.0 in omega (arith, w, s))));
        };
        answers = All-from_get_or (λ r. All (λ c. c.1 < t.outputs) r) rows [] (λ q lt.
            let le : q < length t.access = (let s = all.0 in omega (arith, lt, s)) in
            All-from_get_or (λ c. c.1 < t.outputs) (get_or rows q []) (0, 0) (λ x small. out_below q x le (let s = (all.1 q le).0 in omega (arith, small, s))));
      }

-- each closed table has these
one_output : (outs : List ℕ) → length outs ≡ 1 → outs ≡ get_or outs 0 0 ∷ []
one_output [] one = absurd (omega arith)
one_output (y ∷ []) one = refl
one_output (y ∷ z ∷ outs) one = absurd (omega arith)

transitions_to : (t : TableState) → IsTable t → IsClosedTable t → (q : ℕ) → q < length t.access → (n : ℕ) → n ≤ t.inputs → (row : Row) × AreTransitionsTo t q n row
transitions_to t g closed q lt zero le = ([], (refl, λ x below. absurd (omega arith)))
transitions_to t g closed q lt (suc n) le =
    let r = transitions_to t g closed q lt n (omega (arith, le)) in
    let small : n < t.inputs = omega (arith, le) in
    let there = closed.targets q n lt small in
    let out : List ℕ = word_at (access_row t q) n in
    let here : IsTransition t q n there.0 (get_or out 0 0) = record { within = there.1; row = there.2; cell = one_output out (single_cell t g closed q lt n small) } in
    let next : n + 1 ≡ suc n = omega arith in (
      r.0 ++ (there.0, get_or out 0 0) ∷ [],
      subst (λ (k : ℕ). AreTransitionsTo t q k (r.0 ++ (there.0, get_or out 0 0) ∷ [])) next (transitions_more t q n there.0 (get_or out 0 0) r.0 (r.0 ++ (there.0, get_or out 0 0) ∷ []) r.1 here refl),
    )

states_to : (t : TableState) → IsTable t → IsClosedTable t → (n : ℕ) → n ≤ length t.access → (rows : Rows) × AreStates t n rows
states_to t g closed zero le = ([], (refl, λ x below. absurd (omega arith)))
states_to t g closed (suc n) le =
    let r = states_to t g closed n (omega (arith, le)) in
    let row = transitions_to t g closed n (omega (arith, le)) t.inputs (omega arith) in
    let next : n + 1 ≡ suc n = omega arith in
    (r.0 ++ row.0 ∷ [], subst (λ (k : ℕ). AreStates t k (r.0 ++ row.0 ∷ [])) next (states_more t n row.0 r.0 (r.0 ++ row.0 ∷ []) r.1 row.1 refl))

pub has_machine : HasMachine
has_machine t g closed = let r = states_to t g closed (length t.access) (omega arith) in (r.0, is_machine_of t r.0 g closed r.1)
