-- The walk over the pairs of states, pair by pair.
use Rattle.std.proofs.Common.{◌≡◌, ◌≢◌, ℕ, ◌+◌, ◌<◌, ◌≤◌, ◌⊎◌, inl, inr, ⊎_elim, true, false, List, [], ◌∷◌, ◌++◌, length, get_or, refl, sym, ◌∙◌, arith, subst}
use Rattle.std.proofs.lemmas.List.{get_or_append_left}
use Rattle.std.proofs.lemmas.Bool.{cases_lt}
use Rattle.lw_mealy.specs.Machine.{Rows, out}
use Rattle.lw_separate.specs.Canonical.{IsLeastSeparating}
use Rattle.lw_separate.specs.Separators.{Earlier, SplitAt, IsSeparators}
use Rattle.lw_separate.specs.bodies.Walk.{SeparatesUpTo, Splits}
use Rattle.lw_separate.specs.bodies.Classes.{AreClasses, OwnClasses}
use Rattle.lw_separate.proofs.ClassLemmas.{split_by_class}
use Rattle.lw_separate.proofs.SearchLemmas.{last_or_before, length-push, at_end, pushed_pairs}
use Rattle.lw_separate.proofs.AccessLemmas.{pushed}

earlier_apart : (e f : ℕ × ℕ) → Earlier e f → Earlier f e → ⊥
earlier_apart e f h k =
    ⊎_elim
    (λ (l : e.0 < f.0). ⊎_elim (λ (r : f.0 < e.0). omega arith) (λ (r : (f.0 ≡ e.0) × (f.1 < e.1)). omega (arith, r.0)) k)
    (λ (l : (e.0 ≡ f.0) × (e.1 < f.1)). ⊎_elim (λ (r : f.0 < e.0). omega (arith, l.0)) (λ (r : (f.0 ≡ e.0) × (f.1 < e.1)). omega (arith, l.1, r.1)) k)
    h

-- up to the next pair of the row
earlier_next : (e : ℕ × ℕ) (p q : ℕ) → Earlier e (p, q) → Earlier e (p, q + 1)
earlier_next e p q h = ⊎_elim (λ (l : e.0 < p). inl l) (λ (l : (e.0 ≡ p) × (e.1 < q)). inr (l.0, omega (arith, l.1))) h

earlier_last : (r s p q : ℕ) → Earlier (r, s) (p, q + 1) → Earlier (r, s) (p, q) ⊎ ((r ≡ p) × (s ≡ q))
earlier_last r s p q h =
    ⊎_elim
    (λ (l : r < p). inl (inl l))
    (λ (l : (r ≡ p) × (s < q + 1)). ⊎_elim (λ (t : s < q). inl (inr (l.0, t))) (λ (t : s ≡ q). inr (l.0, t)) (last_or_before s q l.1))
    h

module _ (a : ℕ) (m : Rows) where
  -- no pair yet
  pub walk_start : SeparatesUpTo a m (0, 1) []
  walk_start = record {
    pairs = [];
    paired = refl;
    states = λ i lt. absurd (omega arith);
    least = λ i lt. absurd (omega arith);
    needed = λ i j lt le. absurd (omega arith);
    rising = λ i j lt le. absurd (omega arith);
    before = λ i lt. absurd (omega arith);
    whole = λ p q pq lq h. absurd (⊎_elim (λ (l : p < 0). omega arith) (λ (l : (p ≡ 0) × (q < 1)). omega (arith, l.1, pq)) h);
  }

  -- the end of the walk moves over no pair
  walk_moves : (end to : ℕ × ℕ) (list : List (List ℕ)) → SeparatesUpTo a m end list → ((p q : ℕ) → p < q → q < length m → Earlier (p, q) end → Earlier (p, q) to) → ((p q : ℕ) → p < q → q < length m → Earlier (p, q) to → Earlier (p, q) end) → SeparatesUpTo a m to list
  walk_moves end to list s on back = record {
    pairs = s.pairs;
    paired = s.paired;
    states = s.states;
    least = s.least;
    needed = s.needed;
    rising = s.rising;
    before = λ i lt. on (get_or s.pairs i (0, 0)).0 (get_or s.pairs i (0, 0)).1 (s.states i lt).0 (s.states i lt).1 (s.before i lt);
    whole = λ p q pq lq h. s.whole p q pq lq (back p q pq lq h);
  }

  pub row_done : (p q : ℕ) (list : List (List ℕ)) → length m ≤ q → SeparatesUpTo a m (p, q) list → SeparatesUpTo a m (p + 1, p + 1 + 1) list
  row_done p q list end s = walk_moves (p, q) (p + 1, p + 1 + 1) list s
      (λ r t rt lt h. ⊎_elim (λ (l : r < p). inl (omega arith)) (λ (l : (r ≡ p) × (t < q)). inl (omega (arith, l.0))) h)
      (λ r t rt lt h. ⊎_elim (λ (l : r < p + 1). ⊎_elim (λ (b : r < p). inl b) (λ (b : r ≡ p). inr (b, omega arith)) (last_or_before r p l)) (λ (l : (r ≡ p + 1) × (t < p + 1 + 1)). absurd (omega (arith, l.0, l.1))) h)

  pub walk_done : (p : ℕ) (list : List (List ℕ)) → length m ≤ p → SeparatesUpTo a m (p, p + 1) list → IsSeparators a m list
  walk_done p list end s = record {
    pairs = s.pairs;
    paired = s.paired;
    states = s.states;
    least = s.least;
    needed = s.needed;
    rising = s.rising;
    whole = λ r t rt lt. s.whole r t rt lt (inl (omega arith));
  }

  -- the states that are left are of their own classes, so that no pair is left
  pub walk_apart : (p : ℕ) (list : List (List ℕ)) (classes : List ℕ) → SeparatesUpTo a m (p, p + 1) list → AreClasses m p list classes → OwnClasses p classes → IsSeparators a m list
  walk_apart p list classes s c own = record {
    pairs = s.pairs;
    paired = s.paired;
    states = s.states;
    least = s.least;
    needed = s.needed;
    rising = s.rising;
    whole = λ r t rt lt. ⊎_elim
        (λ (b : r < p). s.whole r t rt lt (inl b))
        (λ (b : p ≤ r).
        let one : get_or classes r 0 ≡ r = own r b (omega (arith, c.names.long, rt, lt)) in
        let two : get_or classes t 0 ≡ t = own t (omega (arith, b, rt)) (omega (arith, c.names.long, lt)) in
        let at = split_by_class m p list classes r t c (b, omega (arith, rt, lt)) (omega (arith, b, rt), lt) (λ same. omega (arith, one, two, same, rt)) in
        (at.0, at.1, not_later p r t (get_or s.pairs at.0 (0, 0)) b rt (s.before at.0 at.1.0)))
        (cases_lt r p);
  }
    where
      not_later : (p r t : ℕ) (e : ℕ × ℕ) → p ≤ r → r < t → Earlier e (p, p + 1) → ¬ Earlier (r, t) e
      not_later p r t e le rt before h =
          ⊎_elim
          (λ (l : r < e.0). ⊎_elim (λ (b : e.0 < p). omega arith) (λ (b : (e.0 ≡ p) × (e.1 < p + 1)). omega (arith, b.0)) before)
          (λ (l : (r ≡ e.0) × (t < e.1)). ⊎_elim (λ (b : e.0 < p). omega (arith, l.0)) (λ (b : (e.0 ≡ p) × (e.1 < p + 1)). omega (arith, l.1, b.1)) before)
          h

  module _ (p q : ℕ) (list : List (List ℕ)) (s : SeparatesUpTo a m (p, q) list) where
    abbrev pair : ℕ → ℕ × ℕ
    pair i = get_or s.pairs i (0, 0)

    -- a word of the list separates the pair
    pub pair_split : Splits m list p q true → SeparatesUpTo a m (p, q + 1) list
    pair_split h = record {
      pairs = s.pairs;
      paired = s.paired;
      states = s.states;
      least = s.least;
      needed = s.needed;
      rising = s.rising;
      before = λ i lt. earlier_next (pair i) p q (s.before i lt);
      whole = λ r t rt lt e. ⊎_elim
          (λ (b : Earlier (r, t) (p, q)). s.whole r t rt lt b)
          (λ (b : (r ≡ p) × (t ≡ q)). subst (λ (v : ℕ). (i : ℕ) × SplitAt m list v t i × ¬ Earlier (v, t) (pair i)) (sym b.0) (subst (λ (v : ℕ). (i : ℕ) × SplitAt m list p v i × ¬ Earlier (p, v) (pair i)) (sym b.1)
          (h.0, h.1, λ later. earlier_apart (p, q) (pair h.0) later (s.before h.0 h.1.0))))
          (earlier_last r t p q e);
    }

    -- none does: the pair's least word is added
    module _ (pq : p < q) (lq : q < length m) (h : Splits m list p q false) (w : List ℕ) (least : IsLeastSeparating a m p q w) where
      abbrev list' : List (List ℕ)
      list' = list ++ w ∷ []

      abbrev pairs' : List (ℕ × ℕ)
      pairs' = s.pairs ++ (p, q) ∷ []

      word_still : (i : ℕ) → i < length list → get_or list' i [] ≡ get_or list i []
      word_still i lt = get_or_append_left list (w ∷ []) [] i lt

      pair_still : (i : ℕ) → i < length list → get_or pairs' i (0, 0) ≡ pair i
      pair_still i lt = get_or_append_left s.pairs ((p, q) ∷ []) (0, 0) i (omega (arith, s.paired))

      word_new : (i : ℕ) → i ≡ length list → get_or list' i [] ≡ w
      word_new i is = at_end list w [] i is

      pair_new : (i : ℕ) → i ≡ length list → get_or pairs' i (0, 0) ≡ (p, q)
      pair_new i is = at_end s.pairs (p, q) (0, 0) i (is ∙ sym s.paired)

      long : length list' ≡ length list + 1
      long = length-push list w

      needed_still : (i j : ℕ) → i < j → j < length list' → out m (get_or pairs' j (0, 0)).0 (get_or list' i []) ≡ out m (get_or pairs' j (0, 0)).1 (get_or list' i [])
      needed_still i j ij lj =
          subst (λ (v : List ℕ). out m (get_or pairs' j (0, 0)).0 v ≡ out m (get_or pairs' j (0, 0)).1 v) (sym (word_still i (omega (arith, long))))
          (⊎_elim
          (λ (l : j < length list). subst (λ (e : ℕ × ℕ). out m e.0 (get_or list i []) ≡ out m e.1 (get_or list i [])) (sym (pair_still j l)) (s.needed i j ij l))
          (λ (l : j ≡ length list). subst (λ (e : ℕ × ℕ). out m e.0 (get_or list i []) ≡ out m e.1 (get_or list i [])) (sym (pair_new j l)) (h i (omega arith)))
          (last_or_before j (length list) (omega (arith, long))))

      rising_still : (i j : ℕ) → i < j → j < length list' → Earlier (get_or pairs' i (0, 0)) (get_or pairs' j (0, 0))
      rising_still i j ij lj =
          subst (λ (e : ℕ × ℕ). Earlier e (get_or pairs' j (0, 0))) (sym (pair_still i (omega (arith, long))))
          (⊎_elim
          (λ (l : j < length list). subst (λ (e : ℕ × ℕ). Earlier (pair i) e) (sym (pair_still j l)) (s.rising i j ij l))
          (λ (l : j ≡ length list). subst (λ (e : ℕ × ℕ). Earlier (pair i) e) (sym (pair_new j l)) (s.before i (omega arith)))
          (last_or_before j (length list) (omega (arith, long))))

      split_still : (r t i : ℕ) → SplitAt m list r t i × ¬ Earlier (r, t) (pair i) → SplitAt m list' r t i × ¬ Earlier (r, t) (get_or pairs' i (0, 0))
      split_still r t i (at, later) = (
        (omega (arith, long, at.0), subst (λ (v : List ℕ). out m r v ≢ out m t v) (sym (word_still i at.0)) at.1),
        subst (λ (e : ℕ × ℕ). ¬ Earlier (r, t) e) (sym (pair_still i at.0)) later,
      )

      split_new : SplitAt m list' p q (length list) × ¬ Earlier (p, q) (get_or pairs' (length list) (0, 0))
      split_new = (
        (omega (arith, long), subst (λ (v : List ℕ). out m p v ≢ out m q v) (sym (word_new (length list) refl)) least.does.1),
        subst (λ (e : ℕ × ℕ). ¬ Earlier (p, q) e) (sym (pair_new (length list) refl)) (λ e. earlier_apart (p, q) (p, q) e e),
      )

      pub pair_added : SeparatesUpTo a m (p, q + 1) list'
      pair_added = record {
        pairs = pairs';
        paired = omega (arith, long, length-push s.pairs (p, q), s.paired);
        states = λ i li. pushed (λ j (e : ℕ × ℕ). (e.0 < e.1) × (e.1 < length m)) s.pairs (p, q) (0, 0) (λ j lj. s.states j (omega (arith, s.paired))) (pq, lq) i (omega (arith, long, length-push s.pairs (p, q), s.paired));
        least = pushed_pairs (λ i v (e : ℕ × ℕ). IsLeastSeparating a m e.0 e.1 v) list s.pairs w [] (p, q) (0, 0) (sym s.paired) s.least least;
        needed = needed_still;
        rising = rising_still;
        before = λ i li. pushed (λ j (e : ℕ × ℕ). Earlier e (p, q + 1)) s.pairs (p, q) (0, 0) (λ j lj. earlier_next (pair j) p q (s.before j (omega (arith, s.paired)))) (inr (refl, omega arith)) i (omega (arith, long, length-push s.pairs (p, q), s.paired));
        whole = λ r t rt lt e. ⊎_elim
            (λ (b : Earlier (r, t) (p, q)). let o = s.whole r t rt lt b in let k = split_still r t o.0 (o.1, o.2) in (o.0, k.0, k.1))
            (λ (b : (r ≡ p) × (t ≡ q)). subst (λ (v : ℕ). (i : ℕ) × SplitAt m list' v t i × ¬ Earlier (v, t) (get_or pairs' i (0, 0))) (sym b.0) (subst (λ (v : ℕ). (i : ℕ) × SplitAt m list' p v i × ¬ Earlier (p, v) (get_or pairs' i (0, 0))) (sym b.1)
            (length list, split_new.0, split_new.1)))
            (earlier_last r t p q e);
      }
