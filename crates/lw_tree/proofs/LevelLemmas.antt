-- A level goes from one open transition to the next: between them stand none.
use Rattle.std.proofs.Common.{◌≡◌, ⊎_elim, ℕ, ◌+◌, ◌*◌, ◌<◌, ◌≤◌, false, true, true≢false, List, length, get_or, Contains, ap, sym, ◌∙◌, subst, arith}
use Rattle.std.proofs.Math.Nat.{mul-le-mul_right}
use Rattle.std.proofs.lemmas.Bool.{cases_lt, cases_eq, false_from_ne_true}
use Rattle.std.proofs.lemmas.List.{get_or_default, get_or_past}
use Rattle.lw_words.specs.Word.{Answer}
use Rattle.lw_tree.specs.Tree.{TreeState, IsTree, BranchesAreRead, node_at, place_at, is_open}
use Rattle.lw_tree.specs.Grown.{MovesOn, AllStepOnce}
use Rattle.lw_tree.specs.bodies.Arrivals.{AreOpen}
use Rattle.lw_tree.specs.bodies.Steps.{HasSifted, HasStepped}
use Rattle.lw_tree.specs.bodies.Transitions.{IsTransition, AreAsked, is_open_by}
use Rattle.lw_tree.specs.declared.transitions.Edge.{Edge}
use Rattle.lw_tree.proofs.GrownLemmas.{still_open, steps_more, sifted_more, sifted_none, sifted_past}
use Rattle.lw_tree.proofs.ListingLemmas.{asked_past}

-- the number at a place of the list; past its end how many transitions there are
abbrev pub number_from : TreeState → List ℕ → ℕ → ℕ
number_from t numbers i = get_or numbers i (length t.places)

module _ (t : TreeState) (numbers : List ℕ) (o : AreOpen t numbers) where
  pub number_at : (i : ℕ) → i < length numbers → number_from t numbers i ≡ get_or numbers i 0
  number_at i lt = get_or_default numbers i (length t.places) 0 lt

  pub number_past : (i : ℕ) → length numbers ≤ i → number_from t numbers i ≡ length t.places
  number_past i past = get_or_past numbers i (length t.places) past

  pub number_within : (i : ℕ) → number_from t numbers i ≤ length t.places
  number_within i =
      ⊎_elim
      (λ (lt : i < length numbers). let at = number_at i lt in let in_places = o.within i lt in omega (arith, at, in_places))
      (λ (past : length numbers ≤ i). let at = number_past i past in omega (arith, at))
      (cases_lt i (length numbers))

  rises : (i j : ℕ) → i ≤ j → j < length numbers → get_or numbers i 0 ≤ get_or numbers j 0
  rises i j le lt =
      ⊎_elim
      (λ (same : i ≡ j). let at : get_or numbers i 0 ≡ get_or numbers j 0 = ap (λ (k : ℕ). get_or numbers k 0) same in omega (arith, at))
      (λ other. let below = o.rising i j (omega (arith, le, other)) lt in omega (arith, below))
      (cases_eq i j)

  -- what is above the numbers before a place, and below the number there, has a target
  closed_between : (i k : ℕ) → ((j : ℕ) → j < i → j < length numbers → get_or numbers j 0 < k) → k < number_from t numbers i → is_open (node_at t.nodes) (place_at t.places k) ≡ false
  closed_between i k above below =
      false_from_ne_true (is_open (node_at t.nodes) (place_at t.places k)) (λ is.
      let within = number_within i in
      at_none (o.each k (omega (arith, below, within)) is))
    where
      at_none : Contains numbers k → ⊥
      at_none has =
          let at : get_or numbers has.0 0 ≡ k = get_or_default numbers has.0 0 k has.1 ∙ has.2 in
          ⊎_elim
          (λ (before : has.0 < i). let lt = above has.0 before has.1 in omega (arith, lt, at))
          (λ (after : i ≤ has.0).
          let rise = rises i has.0 after has.1 in
          let here = number_at i (let lt = has.1 in omega (arith, after, lt)) in
          omega (arith, rise, here, at, below))
          (cases_lt has.0 i)

  pub closed_first : (k : ℕ) → k < number_from t numbers 0 → is_open (node_at t.nodes) (place_at t.places k) ≡ false
  closed_first k below = closed_between 0 k (λ j lt. absurd (omega (arith, lt))) below

  pub closed_next : (i k : ℕ) → i < length numbers → number_from t numbers i < k → k < number_from t numbers (i + 1) → is_open (node_at t.nodes) (place_at t.places k) ≡ false
  closed_next i k lt above below =
      let at = number_at i lt in
      closed_between (i + 1) k (λ j before inside. let rise = rises j i (omega (arith, before)) lt in omega (arith, rise, at, above)) below

  -- the words so far
  pub asked_first : (P : List ℕ → Type 0) → AreAsked P t 0 (number_from t numbers 0)
  asked_first P edge from ge below stands = absurd (true≢false (sym stands ∙ closed_first (edge.state * t.inputs + edge.letter) below))

  pub asked_next : (P : List ℕ → Type 0) (i : ℕ) → i < length numbers → AreAsked P t 0 (number_from t numbers i + 1) → AreAsked P t 0 (number_from t numbers (i + 1))
  asked_next P i lt asked = asked_past P t (number_from t numbers i + 1) (number_from t numbers (i + 1)) asked (λ k ge below. closed_next i k lt (omega (arith, ge)) below)

  -- the steps so far
  pub sifted_first : (ks : List Answer) → IsTree t → BranchesAreRead ks t → HasSifted ks t (number_from t numbers 0) t
  sifted_first ks g read = sifted_past ks t 0 (number_from t numbers 0) t g (sifted_none ks t g read) (omega arith) (λ k ge below. closed_first k below)

  pub sifted_next : (ks : List Answer) (now : TreeState) (i : ℕ) → i < length numbers → IsTree t → HasSifted ks t (number_from t numbers i + 1) now → HasSifted ks t (number_from t numbers (i + 1)) now
  sifted_next ks now i lt g sifted =
      sifted_past ks t (number_from t numbers i + 1) (number_from t numbers (i + 1)) now g sifted rise (λ k ge below. closed_next i k lt (omega (arith, ge)) below)
    where
      rise : number_from t numbers i + 1 ≤ number_from t numbers (i + 1)
      rise =
          let at = number_at i lt in
          ⊎_elim
          (λ (more : i + 1 < length numbers). let next = number_at (i + 1) more in let below = o.rising i (i + 1) (omega arith) more in omega (arith, at, next, below))
          (λ (past : length numbers ≤ i + 1). let next = number_past (i + 1) past in let within = o.within i lt in omega (arith, at, next, within))
          (cases_lt (i + 1) (length numbers))

  -- a number in the list is that of a transition
  pub few_numbers : IsTree t → (i : ℕ) → i < length numbers → get_or numbers i 0 < 65536 * t.inputs
  few_numbers g i lt =
      let within = o.within i lt in
      let each = g.each_place in
      let few = g.few in
      let most = g.most.1 in
      let all : length t.access * t.inputs ≤ 65536 * t.inputs = mul-le-mul_right t.inputs (omega (arith, few, most)) in
      omega (arith, within, each, all)

  pub edge_from : IsTree t → (i : ℕ) → i < length numbers → (edge : Edge) → edge.letter < t.inputs → ((count : ℕ) → get_or numbers i 0 < count * t.inputs → edge.state < count) → IsTransition t edge
  edge_from g i lt edge letter state = (state (length t.access) (subst (λ (n : ℕ). get_or numbers i 0 < n) g.each_place (o.within i lt)), letter)

  -- what a step from one state of the tree finds of a transition whose turn it is
  module _ (ks : List Answer) (now : TreeState) (i : ℕ) (lt : i < length numbers) (g : IsTree t) (sifted : HasSifted ks t (number_from t numbers i) now) (edge : Edge) (at : get_or numbers i 0 ≡ edge.state * now.inputs + edge.letter) where
    pub turn_stands : is_open_by now edge ≡ true
    turn_stands =
        let here = number_at i lt in
        subst (λ (k : ℕ). is_open (node_at now.nodes) (place_at now.places k) ≡ true) at (still_open ks t (number_from t numbers i) now (get_or numbers i 0) g sifted (omega (arith, here)) (o.within i lt) ∙ o.stands i lt)

    -- the steps so far, with this one
    pub turn_steps : (after : TreeState) → HasStepped ks now edge after → AllStepOnce t after
    turn_steps after stepped =
        let here = number_at i lt in
        let within = o.within i lt in
        steps_more ks t (number_from t numbers i) now after edge g sifted (here ∙ at) (omega (arith, here, within)) stepped

    pub turn_done : (after : TreeState) → HasStepped ks now edge after → MovesOn now after (edge.state * now.inputs + edge.letter) → HasSifted ks t (number_from t numbers (i + 1)) after
    turn_done after stepped moved =
        let here = number_at i lt in
        let within = o.within i lt in
        sifted_next ks after i lt g (sifted_more ks t (number_from t numbers i) now after edge g sifted (here ∙ at) (omega (arith, here, within)) stepped moved)
