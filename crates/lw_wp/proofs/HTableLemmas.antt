-- The rows of the H-method's table, as they are made.
use Rattle.std.proofs.Common.{◌≡◌, ◌↔◌, ℕ, ◌+◌, ◌<◌, ◌≤◌, ◌⊎◌, inl, inr, ⊎_elim, Bool, true, false, List, [], ◌∷◌, ◌++◌, length, get_or, set, take, replicate, map, All, Contains, refl, sym, ap, ◌∙◌, subst, arith}
use Rattle.std.specs.List.{filter}
use Rattle.std.proofs.lemmas.Bool.{cases_lt}
use Rattle.std.proofs.lemmas.List.{get_or-map, length-map, length_push, length-take-le, take_more, take_all, get_or_past}
use Rattle.std.proofs.lemmas.List.Elements.{All-nil, All-take, All-filter, All-get_or, All-push, All-contains, Contains-get_or, Contains-append_left, Contains-push, Contains-push_cases}
use Rattle.lw_words.specs.Word.{IsWord}
use Rattle.lw_mealy.specs.Machine.{Rows, after, next}
use Rattle.lw_mealy.proofs.WordLemmas.{after-append}
use Rattle.lw_separate.proofs.AccessLemmas.{pushed}
use Rattle.lw_wp.specs.Identification.{separates}
use Rattle.lw_wp.specs.GreedySuite.{AreGreedySets, IsGreedyRow, IsGreedyTable, StandsBehind, first_apart, states_of}
use Rattle.lw_wp.specs.Tables.{Table, row_for}
use Rattle.lw_wp.specs.bodies.HTables.{AddsStates, AreMarked, IsMarked, IsOfPair, IsTarget, LeadsTo, marked_numbers}
use Rattle.lw_wp.specs.bodies.Tables.{IsTable}
use Rattle.lw_wp.proofs.FilterLemmas.{none_pass}
use Rattle.lw_wp.proofs.GreedyLemmas.{greedy_below}
use Rattle.lw_wp.proofs.MarkLemmas.{all_unmarked, among_more, marked_are, marked_increase, marks_one, marks_same}
use Rattle.lw_wp.proofs.SeparationLemmas.{agree_separates}

-- a state's list, out of a vector of vectors
pub own_read : {X : Type 0} (f : X → List ℕ) (xs : List X) (i at : ℕ) (o : X) (numbers : List ℕ) → i < length (map f xs) → at ≡ i → o ≡ get_or xs at o → numbers ≡ f o → get_or (map f xs) i [] ≡ numbers
own_read f xs i at o numbers lt is read same =
    let l : i < length xs = omega (arith, length-map xs f, lt) in
    get_or-map f xs i o [] l ∙ (ap f (ap (λ (k : ℕ). get_or xs k o) (sym is) ∙ sym read) ∙ sym same)

module _ (h : Rows) (old now : List ℕ) (P Q : ℕ → Type 0) (so_far : AddsStates h old now P) where
  -- one state more
  pub state_added : (target : ℕ) (next_now : List ℕ) → target < length h → next_now ≡ now ++ target ∷ [] → ((p : ℕ) → Q p ↔ (P p ⊎ (target ≡ p))) → AddsStates h old next_now Q
  state_added target next_now lt is more =
      subst (λ (l : List ℕ). AddsStates h old l Q) (sym is)
      (record {
        below = All-push (λ (p : ℕ). p < length h) now target so_far.below lt;
        each = λ p. (
          λ at. ⊎_elim
              (λ (before : Contains now p). ⊎_elim inl (λ (x : P p). inr ((more p).1 (inl x))) ((so_far.each p).0 before))
              (λ (e : target ≡ p). inr ((more p).1 (inr e)))
              (Contains-push_cases now target p at),
          λ s. ⊎_elim
              (λ (before : Contains old p). Contains-append_left now (target ∷ []) p ((so_far.each p).1 (inl before)))
              (λ (x : Q p). ⊎_elim
              (λ (y : P p). Contains-append_left now (target ∷ []) p ((so_far.each p).1 (inr y)))
              (λ (e : target ≡ p). subst (Contains (now ++ target ∷ [])) e (Contains-push now target))
              ((more p).0 x))
              s,
        );
      })

  -- some states more
  pub states_added : (R : ℕ → Type 0) (more : List ℕ) → AddsStates h now more R → ((p : ℕ) → Q p ↔ (P p ⊎ R p)) → AddsStates h old more Q
  states_added R more adds all = record {
    below = adds.below;
    each = λ p. (
      λ at. ⊎_elim
          (λ (before : Contains now p). ⊎_elim inl (λ (x : P p). inr ((all p).1 (inl x))) ((so_far.each p).0 before))
          (λ (r : R p). inr ((all p).1 (inr r)))
          ((adds.each p).0 at),
      λ s. (adds.each p).1 (⊎_elim
          (λ (before : Contains old p). inl ((so_far.each p).1 (inl before)))
          (λ (x : Q p). ⊎_elim (λ (y : P p). inl ((so_far.each p).1 (inr y))) inr ((all p).0 x))
          s),
    );
  }

module _ (h : Rows) (q : ℕ) where
  pub no_targets : (old : List ℕ) → All (λ p. p < length h) old → AddsStates h old old (LeadsTo h q 0)
  no_targets old below = record { below = below; each = λ p. (inl, λ s. ⊎_elim (λ (at : Contains old p). at) (λ (t : LeadsTo h q 0 p). absurd (let l = t.1 in omega (arith, l))) s) }

  leads_more : (bound p : ℕ) → LeadsTo h q (bound + 1) p ↔ (LeadsTo h q bound p ⊎ (next h q bound ≡ p))
  leads_more bound p = (
    λ t. ⊎_elim
        (λ (less : t.0 < bound). inl (t.0, less, t.2))
        (λ (ge : bound ≤ t.0). let l = t.1 in let e : bound ≡ t.0 = omega (arith, l, ge) in inr (ap (next h q) e ∙ t.2))
        (cases_lt t.0 bound),
    λ s. ⊎_elim
        (λ (t : LeadsTo h q bound p). (t.0, let l = t.1 in omega (arith, l), t.2))
        (λ (e : next h q bound ≡ p). (bound, omega arith, e))
        s,
  )

  pub target_added : (bound : ℕ) (old now next_now : List ℕ) (target : ℕ) → AddsStates h old now (LeadsTo h q bound) → target ≡ next h q bound → target < length h → next_now ≡ now ++ target ∷ []
      → AddsStates h old next_now (LeadsTo h q (bound + 1))
  target_added bound old now next_now target so_far is lt pushed' =
      state_added h old now (LeadsTo h q bound) (LeadsTo h q (bound + 1)) so_far target next_now lt pushed'
      (λ p. subst (λ (t : ℕ). LeadsTo h q (bound + 1) p ↔ (LeadsTo h q bound p ⊎ (t ≡ p))) (sym is) (leads_more bound p))

pub targets_none : (a : ℕ) (h : Rows) (states : List ℕ) → AddsStates h [] [] (IsTarget a h (take 0 states))
targets_none a h states = record {
  below = All-nil (λ (p : ℕ). p < length h);
  each = λ p. (inl, λ s. ⊎_elim (λ (at : Contains [] p). at) (λ (t : IsTarget a h (take 0 states) p). absurd (let l = t.1.1 in omega (arith, l))) s);
}

pub targets_more : (a : ℕ) (h : Rows) (states : List ℕ) (index : ℕ) (now more : List ℕ) → AddsStates h [] now (IsTarget a h (take index states)) → index < length states
    → AddsStates h now more (LeadsTo h (get_or states index 0) a) → AddsStates h [] more (IsTarget a h (take (index + 1) states))
targets_more a h states index now more so_far lt adds =
    let s : ℕ = get_or states index 0 in
    states_added h [] now (IsTarget a h (take index states)) (IsTarget a h (take (index + 1) states)) so_far (LeadsTo h s a) more adds
    (λ p. (
      λ t. ⊎_elim
          (λ (before : Contains (take index states) t.0). inl (t.0, before, t.2))
          (λ (e : s ≡ t.0). inr (subst (λ (r : ℕ). LeadsTo h r a p) (sym e) t.2))
          ((among_more states index t.0 lt).0 t.1),
      λ c. ⊎_elim
          (λ (t : IsTarget a h (take index states) p). (t.0, (among_more states index t.0 lt).1 (inl t.1), t.2))
          (λ (l : LeadsTo h s a p). (s, (among_more states index s lt).1 (inr refl), l))
          c,
    ))

pub targets_all : (a : ℕ) (h : Rows) (states : List ℕ) (index : ℕ) (now : List ℕ) → AddsStates h [] now (IsTarget a h (take index states)) → length states ≤ index → AddsStates h [] now (IsTarget a h states)
targets_all a h states index now so_far ge = subst (λ (l : List ℕ). AddsStates h [] now (IsTarget a h l)) (take_all index states ge) so_far

module _ (h : Rows) (words own : List (List ℕ)) (q : ℕ) (states : List ℕ) where
  pub no_pairs : (marks : List Bool) → AreMarked marks marks (IsOfPair h words own q (take 0 states))
  no_pairs marks = record { long = refl; each = λ i. (inl, λ s. ⊎_elim (λ (t : IsMarked marks i). t) (λ (o : IsOfPair h words own q (take 0 states) i). absurd (let l = o.1.1 in omega (arith, l))) s) }

  module _ (index : ℕ) (lt : index < length states) where
    abbrev pub state : ℕ
    state = get_or states index 0

    -- the first of its own
    abbrev pub firsts : List ℕ
    firsts = first_apart h words (get_or own state []) state q

    pairs_more : (i : ℕ) → IsOfPair h words own q (take (index + 1) states) i ↔ (IsOfPair h words own q (take index states) i ⊎ Contains firsts i)
    pairs_more i = (
      λ o. ⊎_elim
          (λ (before : Contains (take index states) o.0). inl (o.0, before, o.2))
          (λ (e : state ≡ o.0). inr (subst (λ (r : ℕ). Contains (first_apart h words (get_or own r []) r q) i) (sym e) o.2))
          ((among_more states index o.0 lt).0 o.1),
      λ c. ⊎_elim
          (λ (o : IsOfPair h words own q (take index states) i). (o.0, (among_more states index o.0 lt).1 (inl o.1), o.2))
          (λ (at : Contains firsts i). (state, (among_more states index state lt).1 (inr refl), at))
          c,
    )

    alone : (n i : ℕ) → Contains (n ∷ []) i ↔ (n ≡ i)
    alone n i = (λ at. All-contains (λ (k : ℕ). n ≡ k) (n ∷ []) i (All-push (λ (k : ℕ). n ≡ k) [] n (All-nil (λ (k : ℕ). n ≡ k)) refl) at, λ e. subst (Contains (n ∷ [])) e (Contains-push [] n))

    module _ (old now : List Bool) (so_far : AreMarked old now (IsOfPair h words own q (take index states))) where
      -- it is marked
      pub pair_marked : (number : ℕ) (new : List Bool) → firsts ≡ number ∷ [] → number < length now → new ≡ set now number true → AreMarked old new (IsOfPair h words own q (take (index + 1) states))
      pair_marked number new is within set_is =
          marks_one old now (IsOfPair h words own q (take index states)) (IsOfPair h words own q (take (index + 1) states)) so_far number new within set_is
          (λ i.
          let more = subst (λ (l : List ℕ). IsOfPair h words own q (take (index + 1) states) i ↔ (IsOfPair h words own q (take index states) i ⊎ Contains l i)) is (pairs_more i) in
          (λ o. ⊎_elim inl (λ (at : Contains (number ∷ []) i). inr ((alone number i).0 at)) (more.0 o), λ c. more.1 (⊎_elim inl (λ (e : number ≡ i). inr ((alone number i).1 e)) c)))

      -- there is none
      pub pair_none : firsts ≡ [] → AreMarked old now (IsOfPair h words own q (take (index + 1) states))
      pair_none is =
          marks_same old now (IsOfPair h words own q (take index states)) (IsOfPair h words own q (take (index + 1) states)) so_far
          (λ i.
          let more = subst (λ (l : List ℕ). IsOfPair h words own q (take (index + 1) states) i ↔ (IsOfPair h words own q (take index states) i ⊎ Contains l i)) is (pairs_more i) in
          (λ o. ⊎_elim (λ (b : IsOfPair h words own q (take index states) i). b) (λ (at : Contains [] i). absurd (let l = at.1 in omega (arith, l))) (more.0 o), λ b. more.1 (inl b)))

  pub pairs_all : (index : ℕ) (old now : List Bool) → AreMarked old now (IsOfPair h words own q (take index states)) → length states ≤ index → AreMarked old now (IsOfPair h words own q states)
  pairs_all index old now so_far ge = subst (λ (l : List ℕ). AreMarked old now (IsOfPair h words own q l)) (take_all index states ge) so_far

-- words of d letters lead from q to p
abbrev pub IsReached : ℕ → Rows → ℕ → ℕ → ℕ → Type 0
IsReached a h q d p = (w : List ℕ) × IsWord a w × (length w ≡ d) × (after h q w ≡ p)

-- the rows of a state, after so many letters
pub record RowsUpTo (a : ℕ) (h : Rows) (words own : List (List ℕ)) (q d : ℕ) (marks : List Bool) (reached : List ℕ) (rows : List (List ℕ)) : Type 0 where
  pub marks_long : length marks ≡ length words
  pub marked : (i : ℕ) → IsMarked marks i ↔ StandsBehind a h words own q d i
  pub below : All (λ p. p < length h) reached
  pub reached_are : (p : ℕ) → Contains reached p ↔ IsReached a h q d p
  pub long : length rows ≡ d + 1
  pub rows_are : (k : ℕ) → k < length rows → IsGreedyRow a h words own q k (get_or rows k [])

module _ (a : ℕ) (h : Rows) (words own : List (List ℕ)) (q : ℕ) where
  -- as the numbers of a row, what is marked
  as_row : (d : ℕ) (marks : List Bool) (row : List ℕ) → ((i : ℕ) → IsMarked marks i ↔ StandsBehind a h words own q d i) → row ≡ marked_numbers marks → IsGreedyRow a h words own q d row
  as_row d marks row marked is =
      subst (IsGreedyRow a h words own q d) (sym is)
      (record {
        increasing = marked_increase marks;
        each = λ i. (λ at. (marked i).0 ((marked_are marks i).0 at), λ s. (marked_are marks i).1 ((marked i).1 s));
      })

  row_pushed : (rows : List (List ℕ)) (row : List ℕ) (d : ℕ) → length rows ≡ d → ((k : ℕ) → k < length rows → IsGreedyRow a h words own q k (get_or rows k [])) → IsGreedyRow a h words own q d row
      → (k : ℕ) → k < length (rows ++ row ∷ []) → IsGreedyRow a h words own q k (get_or (rows ++ row ∷ []) k [])
  row_pushed rows row d long are is = pushed (λ (k : ℕ) (r : List ℕ). IsGreedyRow a h words own q k r) rows row [] are (subst (λ (k : ℕ). IsGreedyRow a h words own q k row) (sym long) is)

  no_letters : (w : List ℕ) → length w ≤ 0 → after h q w ≡ q
  no_letters [] le = refl
  no_letters (x ∷ w) le = absurd (omega (arith, le))

  -- no word separates q from itself
  none_itself : (numbers : List ℕ) → first_apart h words numbers q q ≡ []
  none_itself numbers = ap (take 1) (none_pass (λ (i : ℕ). separates h q q (get_or words i [])) numbers (λ i. agree_separates h q q (get_or words i []) refl))

  -- with no letter left
  behind_none : (i : ℕ) → StandsBehind a h words own q 0 i ↔ Contains (get_or own q []) i
  behind_none i = (
    λ s. ⊎_elim
        (λ (at : Contains (get_or own q []) i). at)
        (λ (b : (w : List ℕ) × IsWord a w × (length w ≤ 0) × Contains (first_apart h words (get_or own (after h q w) []) (after h q w) q) i).
        let at : Contains (first_apart h words (get_or own q []) q q) i = subst (λ (r : ℕ). Contains (first_apart h words (get_or own r []) r q) i) (no_letters b.0 b.2) b.3 in
        let none : Contains [] i = subst (λ (l : List ℕ). Contains l i) (none_itself (get_or own q [])) at in
        absurd (let l = none.1 in omega (arith, l)))
        s,
    inl,
  )

  -- the first row
  pub rows_begun : (n : ℕ) (marks : List Bool) (row : List ℕ) (rows : List (List ℕ)) → length marks ≡ length words → AreMarked (replicate n false) marks (Contains (get_or own q [])) → q < length h
      → row ≡ marked_numbers marks → rows ≡ row ∷ [] → RowsUpTo a h words own q 0 marks (q ∷ []) rows
  rows_begun n marks row rows long set_are lq row_is is =
      let marked : (i : ℕ) → IsMarked marks i ↔ StandsBehind a h words own q 0 i = λ i. (
        λ t. (behind_none i).1 (⊎_elim (λ (m : IsMarked (replicate n false) i). absurd (all_unmarked n i m)) (λ (at : Contains (get_or own q []) i). at) ((set_are.each i).0 t)),
        λ s. (set_are.each i).1 (inr ((behind_none i).0 s)),
      ) in
      record {
        marks_long = long;
        marked = marked;
        below = All-push (λ (p : ℕ). p < length h) [] q (All-nil (λ (p : ℕ). p < length h)) lq;
        reached_are = λ p. (
          λ at. ([], All-nil (λ (x : ℕ). x < a), refl, All-contains (λ (r : ℕ). q ≡ r) (q ∷ []) p (All-push (λ (r : ℕ). q ≡ r) [] q (All-nil (λ (r : ℕ). q ≡ r)) refl) at),
          λ r. subst (Contains (q ∷ [])) (sym (no_letters r.0 (let l = r.2 in omega (arith, l))) ∙ r.3) (Contains-push [] q),
        );
        long = ap length is;
        rows_are = subst (λ (l : List (List ℕ)). (k : ℕ) → k < length l → IsGreedyRow a h words own q k (get_or l k [])) (sym is)
            (row_pushed [] row 0 refl (λ d lt. absurd (omega (arith, lt))) (as_row 0 marks row marked row_is));
      }

  -- the last letter of a word
  last_letter : (w : List ℕ) (d : ℕ) → length w ≡ d + 1 → after h q w ≡ next h (after h q (take d w)) (get_or w d 0)
  last_letter w d len =
      let e : w ≡ take d w ++ get_or w d 0 ∷ [] = sym (take_all (d + 1) w (omega (arith, len))) ∙ take_more w d 0 (omega (arith, len)) in
      ap (after h q) e ∙ after-append h q (take d w) (get_or w d 0 ∷ [])

  module _ (d : ℕ) (marks new_marks : List Bool) (reached targets : List ℕ) (rows new_rows : List (List ℕ)) (row : List ℕ) (so_far : RowsUpTo a h words own q d marks reached rows) (has : AddsStates h [] targets (IsTarget a h reached)) (marked_more : AreMarked marks new_marks (IsOfPair h words own q targets)) where
    reached_more : (p : ℕ) → Contains targets p ↔ IsReached a h q (d + 1) p
    reached_more p = (
      λ at. ⊎_elim
          (λ (none : Contains [] p). absurd (let l = none.1 in omega (arith, l)))
          (λ (t : IsTarget a h reached p).
          let r = (so_far.reached_are t.0).0 t.1 in
          let x : ℕ = t.2.0 in (
            r.0 ++ x ∷ [],
            All-push (λ (y : ℕ). y < a) r.0 x r.1 t.2.1,
            let l = length_push r.0 x in let m = r.2 in omega (arith, l, m),
            after-append h q r.0 (x ∷ []) ∙ (ap (λ (s : ℕ). next h s x) r.3 ∙ t.2.2),
          ))
          ((has.each p).0 at),
      λ r.
          let w : List ℕ = r.0 in
          let long : length w ≡ d + 1 = r.2 in
          let before : Contains reached (after h q (take d w)) =
          (so_far.reached_are (after h q (take d w))).1 (take d w, All-take (λ (x : ℕ). x < a) d w r.1, length-take-le d w (omega (arith, long)), refl) in
          (has.each p).1 (inr (after h q (take d w), before, (get_or w d 0, All-get_or (λ (x : ℕ). x < a) w d 0 (omega (arith, long)) r.1, sym (last_letter w d long) ∙ r.3))),
    )

    behind_more : (i : ℕ) → StandsBehind a h words own q (d + 1) i ↔ (StandsBehind a h words own q d i ⊎ IsOfPair h words own q targets i)
    behind_more i = (
      λ s. ⊎_elim
          (λ (at : Contains (get_or own q []) i). inl (inl at))
          (λ (b : (w : List ℕ) × IsWord a w × (length w ≤ d + 1) × Contains (first_apart h words (get_or own (after h q w) []) (after h q w) q) i).
          let le : length b.0 ≤ d + 1 = b.2 in
          ⊎_elim
          (λ (less : length b.0 < d + 1). inl (inr (b.0, b.1, omega (arith, less), b.3)))
          (λ (ge : d + 1 ≤ length b.0). inr (after h q b.0, (reached_more (after h q b.0)).1 (b.0, b.1, omega (arith, le, ge), refl), b.3))
          (cases_lt (length b.0) (d + 1)))
          s,
      λ c. ⊎_elim
          (λ (s : StandsBehind a h words own q d i). ⊎_elim
          inl
          (λ (b : (w : List ℕ) × IsWord a w × (length w ≤ d) × Contains (first_apart h words (get_or own (after h q w) []) (after h q w) q) i).
          inr (b.0, b.1, let l = b.2 in omega (arith, l), b.3))
          s)
          (λ (o : IsOfPair h words own q targets i).
          let r = (reached_more o.0).0 o.1 in
          inr (r.0, r.1, let l = r.2 in omega (arith, l), subst (λ (p : ℕ). Contains (first_apart h words (get_or own p []) p q) i) (sym r.3) o.2))
          c,
    )

    -- a letter more
    pub rows_more : row ≡ marked_numbers new_marks → new_rows ≡ rows ++ row ∷ [] → RowsUpTo a h words own q (d + 1) new_marks targets new_rows
    rows_more row_is is =
        let marked : (i : ℕ) → IsMarked new_marks i ↔ StandsBehind a h words own q (d + 1) i = λ i. (
          λ t. (behind_more i).1 (⊎_elim (λ (m : IsMarked marks i). inl ((so_far.marked i).0 m)) inr ((marked_more.each i).0 t)),
          λ s. (marked_more.each i).1 (⊎_elim (λ (b : StandsBehind a h words own q d i). inl ((so_far.marked i).1 b)) inr ((behind_more i).0 s)),
        ) in
        record {
          marks_long = marked_more.long ∙ so_far.marks_long;
          marked = marked;
          below = has.below;
          reached_are = reached_more;
          long = ap length is ∙ (length_push rows row ∙ ap (λ (n : ℕ). n + 1) so_far.long);
          rows_are = subst (λ (l : List (List ℕ)). (k : ℕ) → k < length l → IsGreedyRow a h words own q k (get_or l k [])) (sym is)
              (row_pushed rows row (d + 1) so_far.long so_far.rows_are (as_row (d + 1) new_marks row marked row_is));
        }

module _ (a : ℕ) (h : Rows) (words own : List (List ℕ)) (greedy : AreGreedySets h words own) where
  -- each number of the sets is that of a word
  pub own_below : (q : ℕ) → All (λ i. i < length words) (get_or own q [])
  own_below q =
      ⊎_elim
      (λ (lt : q < length own). greedy_below h words q (states_of h) (get_or own q []) (greedy.each q lt))
      (λ (ge : length own ≤ q). subst (All (λ (i : ℕ). i < length words)) (sym (get_or_past own q [] ge)) (All-nil (λ (i : ℕ). i < length words)))
      (cases_lt q (length own))

  -- and so each that stands behind a state
  pub behind_below : (q d i : ℕ) → StandsBehind a h words own q d i → i < length words
  behind_below q d i s =
      let Below : ℕ → Type 0 = λ j. j < length words in
      ⊎_elim
      (All-contains Below (get_or own q []) i (own_below q))
      (λ (b : (w : List ℕ) × IsWord a w × (length w ≤ d) × Contains (first_apart h words (get_or own (after h q w) []) (after h q w) q) i).
      let r : ℕ = after h q b.0 in
      let test : ℕ → Bool = λ j. separates h r q (get_or words j []) in
      All-contains Below (first_apart h words (get_or own r []) r q) i (All-take Below 1 (filter test (get_or own r [])) (All-filter test Below (get_or own r []) (own_below r))) b.3)
      s

  pub row_below : (q d : ℕ) (row : List ℕ) → IsGreedyRow a h words own q d row → All (λ i. i < length words) row
  row_below q d row is j e lt = behind_below q d (get_or row j e) ((is.each (get_or row j e)).0 (Contains-get_or row j e lt))

  -- the table has numbers of words
  pub h_is_table : (k : ℕ) (table : Table) → IsGreedyTable a h k words own table → IsTable h words table
  h_is_table k table is = record {
    long = is.long;
    below = λ q left.
        let none : row_for table q left ≡ [] → All (λ (i : ℕ). i < length words) (row_for table q left) =
        λ e. subst (All (λ (i : ℕ). i < length words)) (sym e) (All-nil (λ (i : ℕ). i < length words)) in
        ⊎_elim
        (λ (lt : q < length table). ⊎_elim
        (λ (within : left < length (get_or table q [])). row_below q left (row_for table q left) ((is.each q lt).each left within))
        (λ (past : length (get_or table q []) ≤ left). none (get_or_past (get_or table q []) left [] past))
        (cases_lt left (length (get_or table q []))))
        (λ (ge : length table ≤ q). none (ap (λ (rows : List (List ℕ)). get_or rows left []) (get_or_past table q [] ge)))
        (cases_lt q (length table));
  }
