-- The machine of an acceptor: its rows, its pairs, and that it is a machine.
use Rattle.std.proofs.Common.{◌≡◌, ℕ, zero, suc, ◌+◌, ◌<◌, ◌≤◌, List, [], ◌∷◌, ◌++◌, Bool, true, false, length, get_or, map, refl, ap, ◌∙◌, arith}
use Rattle.std.specs.List.{All}
use Rattle.std.proofs.lemmas.List.{get_or-map, length-map}
use Rattle.std.proofs.lemmas.List.Elements.{All-cons, All-map, All-from_get_or}
use Rattle.lw_mealy.specs.Machine.{Row, row, cell, IsMachine, AnswersBelow, IsWithinLimits}
use Rattle.lw_accept.specs.Acceptor.{Automaton, IsAcceptor, accepts_in, target, reached}
use Rattle.lw_accept.specs.View.{verdict, viewed_row, viewed_from, viewed, viewed_machine}

pub viewed_at : (q i : ℕ) (bits : List Bool) (rows : List (List ℕ)) → length bits ≡ length rows → i < length rows
    → row (viewed_from q bits rows) i ≡ viewed_row (q + i) (get_or bits i false) (get_or rows i [])
viewed_at q i [] [] e lt = absurd (omega (arith, lt))
viewed_at q i [] (r ∷ rows) e lt = absurd (omega (arith, e))
viewed_at q i (b ∷ bits) [] e lt = absurd (omega (arith, lt))
viewed_at q zero (b ∷ bits) (r ∷ rows) e lt = ap (λ (n : ℕ). viewed_row n b r) (omega arith)
viewed_at q (suc i) (b ∷ bits) (r ∷ rows) e lt =
    viewed_at (q + 1) i bits rows (omega (arith, e)) (omega (arith, lt))
    ∙ ap (λ (n : ℕ). viewed_row n (get_or bits i false) (get_or rows i [])) (omega arith)

pub viewed_count : (q : ℕ) (bits : List Bool) (rows : List (List ℕ)) → length bits ≡ length rows → length (viewed_from q bits rows) ≡ length rows
viewed_count q [] [] e = refl
viewed_count q [] (r ∷ rows) e = absurd (omega (arith, e))
viewed_count q (b ∷ bits) [] e = absurd (omega (arith, e))
viewed_count q (b ∷ bits) (r ∷ rows) e = ap (λ (n : ℕ). suc n) (viewed_count (q + 1) bits rows (omega (arith, e)))

-- one letter more
pub reached_more : (targets : List (List ℕ)) (q : ℕ) (u : List ℕ) (x : ℕ) → reached targets q (u ++ x ∷ []) ≡ target targets (reached targets q u) x
reached_more targets q [] x = refl
reached_more targets q (y ∷ u) x = reached_more targets (target targets q y) u x

module _ (a : ℕ) (m : Automaton) (is : IsAcceptor a m) where
  pub states : length (viewed m) ≡ length m.targets
  states = viewed_count 0 m.accepting m.targets is.bits

  pub row_is : (q : ℕ) → q < length m.targets → row (viewed m) q ≡ viewed_row q (accepts_in m q) (get_or m.targets q [])
  row_is q lt = viewed_at 0 q m.accepting m.targets is.bits lt ∙ ap (λ (n : ℕ). viewed_row n (accepts_in m q) (get_or m.targets q [])) (omega arith)

  pub targets_are : (q : ℕ) → q < length m.targets → (length (get_or m.targets q []) ≡ a) × All (λ t. t < length m.targets) (get_or m.targets q [])
  targets_are q lt = is.complete q [] lt

  pub target_is : (q x : ℕ) → q < length m.targets → x < a → target m.targets q x < length m.targets
  target_is q x lt le =
      let r = targets_are q lt in
      r.1 x 0 (rw r.0 le)

  -- the pair at `?`, and that at another letter
  pub at_question : (q : ℕ) → q < length m.targets → cell (viewed m) q 0 ≡ (q, verdict (accepts_in m q))
  at_question q lt = ap (λ (r : Row). get_or r 0 (0, 0)) (row_is q lt)

  pub at_letter : (q x : ℕ) → q < length m.targets → x < a → cell (viewed m) q (suc x) ≡ (target m.targets q x, 2)
  at_letter q x lt le =
      ap (λ (r : Row). get_or r (suc x) (0, 0)) (row_is q lt)
      ∙ get_or-map (λ (t : ℕ). (t, 2)) (get_or m.targets q []) x 0 (0, 0) (rw (targets_are q lt).0 le)

  row_holds : (q : ℕ) → q < length m.targets → (length (row (viewed m) q) ≡ a + 1) × All (λ c. c.0 < length (viewed m)) (row (viewed m) q)
  row_holds q lt =
      let r = targets_are q lt in
      rw (row_is q lt, states) (
        omega (arith, length-map {B = ℕ × ℕ} (get_or m.targets q []) (λ t. (t, 2)), r.0),
        All-cons (λ c. c.0 < length m.targets) (q, verdict (accepts_in m q)) (map (λ t. (t, 2)) (get_or m.targets q [])) lt
            (All-map (λ c. c.0 < length m.targets) (λ t. (t, 2)) (get_or m.targets q []) r.1),
      )

  pub row_long : (q : ℕ) → q < length m.targets → length (row (viewed m) q) ≡ a + 1
  row_long q lt = (row_holds q lt).0

  pub machine : IsMachine (a + 1) (viewed m)
  machine = record {
    some_state = omega (arith, states, is.some_state);
    complete = All-from_get_or (λ r. (length r ≡ a + 1) × All (λ c. c.0 < length (viewed m)) r) (viewed m) [] (λ q lt. row_holds q (omega (arith, states, lt)));
  }

  verdict_below : (b : Bool) → verdict b < 3
  verdict_below true = omega arith
  verdict_below false = omega arith

  outputs_below : AnswersBelow 3 (viewed m)
  outputs_below =
      All-from_get_or (λ r. All (λ c. c.1 < 3) r) (viewed m) [] (λ q lt.
      let lt' : q < length m.targets = omega (arith, states, lt) in
      rw (row_is q lt') (All-cons (λ c. c.1 < 3) (q, verdict (accepts_in m q)) (map (λ t. (t, 2)) (get_or m.targets q [])) (verdict_below (accepts_in m q))
      (All-map (λ c. c.1 < 3) (λ t. (t, 2)) (get_or m.targets q []) (λ x e le. omega arith))))

  pub within : a ≤ 63 → length m.targets ≤ 1024 → IsWithinLimits (viewed_machine a m)
  within few less = record {
    inputs = (omega arith, omega (arith, few));
    outputs = (omega arith, omega arith);
    few = omega (arith, states, less);
    machine = machine;
    answers = outputs_below;
  }
