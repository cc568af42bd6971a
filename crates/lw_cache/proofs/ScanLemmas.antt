-- Going through all nodes once.
use Rattle.std.proofs.Common.{◌≡◌, ◌≢◌, ◌↔◌, ℕ, ◌+◌, ◌<◌, ◌≤◌, ⊎_elim, Bool, true, false, List, [], ◌∷◌, ◌++◌, length, get_or, Contains, Option, Some, None, refl, ap, sym, ◌∙◌, subst, arith}
use Rattle.std.proofs.lemmas.Bool.{cases_eq, cases_lt, false≢true}
use Rattle.std.proofs.lemmas.List.{length_push, get_or_push, get_or_append_left}
use Rattle.std.proofs.lemmas.List.Elements.{Contains-push, Contains-push_cases, Contains-append_left, Contains-get_or}
use Rattle.std.proofs.lemmas.List.Quantifiers.{all_pairs_push}
use Rattle.std.specs.declared.cmp.Ordering.TheVariants.{Less, Equal}
use Rattle.std.proofs.lemmas.Cmp.{tied_itself}
use Rattle.lw_words.proofs.Orders.{is_order}
use Rattle.lw_words.specs.Word.{shortlex_cmp}
use Rattle.lw_mealy.specs.Machine.{Rows, after, next, output}
use Rattle.lw_mealy.proofs.WordLemmas.{after-append}
use Rattle.lw_cache.specs.bodies.Trie.{word_of, IsTrie, no_answer}
use Rattle.lw_cache.specs.bodies.Scanning.{IsLive, CountsLive, DiffersAt, IsFirstTo, AreStates, AreLetters}
use Rattle.lw_cache.specs.bodies.Upward.{IsEarlierOf}
use Rattle.lw_cache.specs.declared.node.Node.{Node}
use Rattle.lw_cache.proofs.TrieLemmas.{word_step, one_node}

pub count_none : (at : ℕ → Node) (n : ℕ) → n ≤ 1 → CountsLive at n 0
count_none at n le =
    record {
      words = [];
      counted = refl;
      differ = λ i j d before lt. absurd (omega arith);
      exactly = λ w. (λ c. absurd (omega (arith, c.1)), λ l. absurd (omega (arith, l.1, l.2)));
    }

pub count_more : (at : ℕ → Node) (n i count now : ℕ) → IsTrie at n → 0 < i → i < n → CountsLive at i count → IsLive (at i) → now ≡ count + 1 → CountsLive at (i + 1) now
count_more at n i count now t pos lt c live is =
    record {
      words = c.words ++ word_of at i ∷ [];
      counted = length_push c.words (word_of at i) ∙ (ap (λ (k : ℕ). k + 1) c.counted ∙ sym is);
      differ = all_pairs_push (λ a b. a ≢ b) c.words (word_of at i) c.differ (λ k d within e.
          let r = (c.exactly (get_or c.words k d)).0 (Contains-get_or c.words k d within) in
          let same : r.0 ≡ i = one_node at n t r.0 i (omega (arith, r.2)) lt (r.4 ∙ e) in
          omega (arith, r.2, same));
      exactly = λ w. (
        λ has. ⊎_elim
            (λ (old : Contains c.words w). let r = (c.exactly w).0 old in (r.0, r.1, omega (arith, r.2), r.3, r.4))
            (λ (e : word_of at i ≡ w). (i, pos, omega arith, live, e))
            (Contains-push_cases c.words (word_of at i) w has),
        λ l. ⊎_elim
            (λ (before : l.0 < i). Contains-append_left c.words (word_of at i ∷ []) w ((c.exactly w).1 (l.0, l.1, before, l.3, l.4)))
            (λ (from : i ≤ l.0).
            let same : l.0 ≡ i = omega (arith, l.2) in
            subst (Contains (c.words ++ word_of at i ∷ [])) (ap (word_of at) (sym same) ∙ l.4) (Contains-push c.words (word_of at i)))
            (cases_lt l.0 i),
      );
    }

pub count_skip : (at : ℕ → Node) (i count now : ℕ) → CountsLive at i count → ¬ IsLive (at i) → now ≡ count → CountsLive at (i + 1) now
count_skip at i count now c dead is =
    record {
      words = c.words;
      counted = c.counted ∙ sym is;
      differ = c.differ;
      exactly = λ w. (
        λ has. let r = (c.exactly w).0 has in (r.0, r.1, omega (arith, r.2), r.3, r.4),
        λ l. ⊎_elim
            (λ (before : l.0 < i). (c.exactly w).1 (l.0, l.1, before, l.3, l.4))
            (λ (from : i ≤ l.0). let same : l.0 ≡ i = omega (arith, l.2) in absurd (dead (subst (λ (k : ℕ). IsLive (at k)) same l.3)))
            (cases_lt l.0 i),
      );
    }

-- the machine's states
pub states_begin : (at : ℕ → Node) (m : Rows) (states : List ℕ) (initial : ℕ) → initial ≡ 0 → initial < length m → states ≡ initial ∷ [] → AreStates at m 1 states
states_begin at m states initial none lt is =
    subst (AreStates at m 1) (sym is)
    (record {
      long = refl;
      first = none;
      within = λ j less. let e : 0 ≡ j = omega arith in subst (λ (k : ℕ). get_or (initial ∷ []) k 0 < length m) e lt;
      state = λ j pos less told. absurd (omega arith);
    })

module _ (at : ℕ → Node) (n : ℕ) (m : Rows) (t : IsTrie at n) (a : ℕ) (letters : AreLetters at n a) (i : ℕ) (pos : 0 < i) (lt : i < n) (states : List ℕ) (s : AreStates at m i states) where
  pub parent_before : (at i).parent < i
  parent_before = t.up i pos lt

  -- the state before the last letter of the node's word
  pub parent_state : (at i).answer ≢ no_answer → get_or states (at i).parent 0 ≡ after m 0 (word_of at (at i).parent)
  parent_state told =
      ⊎_elim
      (λ (e : (at i).parent ≡ 0). ap (λ (k : ℕ). get_or states k 0) e ∙ (s.first ∙ ap (λ (k : ℕ). after m 0 (word_of at k)) (sym e)))
      (λ (some : (at (at i).parent).answer ≢ no_answer). ⊎_elim
      (λ (e : (at i).parent ≡ 0). ap (λ (k : ℕ). get_or states k 0) e ∙ (s.first ∙ ap (λ (k : ℕ). after m 0 (word_of at k)) (sym e)))
      (λ (o : (at i).parent ≡ 0 → ⊥). s.state (at i).parent (omega (arith, o)) parent_before some)
      (cases_eq (at i).parent 0))
      (letters i pos lt told).1

  pub states_more : (state : ℕ) (now : List ℕ) → now ≡ states ++ state ∷ [] → state < length m → ((at i).answer ≢ no_answer → state ≡ next m (get_or states (at i).parent 0) (at i).letter) → AreStates at m (i + 1) now
  states_more state now is within steps =
      let last : get_or now i 0 ≡ state = ap (λ (l : List ℕ). get_or l i 0) is ∙ get_or_push states state 0 i s.long in
      let old : (j : ℕ) → j < i → get_or now j 0 ≡ get_or states j 0 = λ j less. ap (λ (l : List ℕ). get_or l j 0) is ∙ get_or_append_left states (state ∷ []) 0 j (omega (arith, less, s.long)) in
      record {
        long = ap (λ (l : List ℕ). length l) is ∙ (length_push states state ∙ ap (λ (k : ℕ). k + 1) s.long);
        first = old 0 pos ∙ s.first;
        within = λ j less. ⊎_elim
            (λ (before : j < i). omega (arith, old j before, s.within j before))
            (λ (from : i ≤ j). let same : j ≡ i = omega arith in omega (arith, ap (λ (k : ℕ). get_or now k 0) same, last, within))
            (cases_lt j i);
        state = λ j low less told. ⊎_elim
            (λ (before : j < i). old j before ∙ s.state j low before told)
            (λ (from : i ≤ j).
            let same : j ≡ i = omega arith in
            subst (λ (k : ℕ). get_or now k 0 ≡ after m 0 (word_of at k)) (sym same) (last ∙ here (subst (λ (k : ℕ). (at k).answer ≢ no_answer) same told)))
            (cases_lt j i);
      }
    where
      here : (at i).answer ≢ no_answer → state ≡ after m 0 (word_of at i)
      here told =
          steps told
          ∙ (ap (λ (q : ℕ). next m q (at i).letter) (parent_state told)
          ∙ (sym (after-append m 0 (word_of at (at i).parent) ((at i).letter ∷ [])) ∙ ap (after m 0) (sym (word_step at n t i pos lt))))

  -- the node differs exactly where its output isn't that of the state before
  pub differs_here : (differs : Bool) → ((at i).answer ≡ no_answer → differs ≡ false) → ((at i).answer ≢ no_answer → (differs ≡ true) ↔ ((at i).output ≢ output m (get_or states (at i).parent 0) (at i).letter)) → (differs ≡ true) ↔ DiffersAt at n m i
  differs_here differs none some = (
    λ yes. ⊎_elim
        (λ (e : (at i).answer ≡ no_answer). absurd (false≢true (sym (none e) ∙ yes)))
        (λ (told : (at i).answer ≡ no_answer → ⊥).
        let r : DiffersAt at n m i = record {
          positive = pos;
          within = lt;
          told = told;
          other = λ e. (some told).0 yes (e ∙ ap (λ (q : ℕ). output m q (at i).letter) (sym (parent_state told)));
        } in r)
        (cases_eq (at i).answer no_answer),
    λ d. (some d.told).1 (λ e. d.other (e ∙ ap (λ (q : ℕ). output m q (at i).letter) (parent_state d.told))),
  )

-- the first word so far
module _ (at : ℕ → Node) (n : ℕ) (m : Rows) (i : ℕ) where
  pub first_same : (best : Option (List ℕ)) → IsFirstTo at n m i best → ¬ DiffersAt at n m i → IsFirstTo at n m (i + 1) best
  first_same None was not = λ j lt d. ⊎_elim (λ (before : j < i). was j before d) (λ (from : i ≤ j). let same : j ≡ i = omega arith in not (subst (DiffersAt at n m) same d)) (cases_lt j i)
  first_same (Some w) was not = (
    was.0,
    λ j lt d. ⊎_elim (λ (before : j < i). was.1 j before d) (λ (from : i ≤ j). let same : j ≡ i = omega arith in absurd (not (subst (DiffersAt at n m) same d))) (cases_lt j i),
  )

  not_before_itself : (w : List ℕ) → shortlex_cmp w w ≢ Less
  not_before_itself w less = let no : Equal ≡ Less = sym (tied_itself is_order.0 w) ∙ less in absurd (cc)

  pub first_more : (best result : Option (List ℕ)) → IsFirstTo at n m i best → DiffersAt at n m i → IsEarlierOf best (word_of at i) result → IsFirstTo at n m (i + 1) result
  first_more None result was here e =
      subst (IsFirstTo at n m (i + 1)) (sym e)
      ((i, here, refl), λ j lt d. ⊎_elim (λ (before : j < i). absurd (was j before d)) (λ (from : i ≤ j). let same : j ≡ i = omega arith in subst (λ (k : ℕ). shortlex_cmp (word_of at k) (word_of at i) ≢ Less) (sym same) (not_before_itself (word_of at i))) (cases_lt j i))
  first_more (Some best) result was here e =
      ⊎_elim
      (λ (r : (result ≡ Some (word_of at i)) × (shortlex_cmp (word_of at i) best ≡ Less)).
      subst (IsFirstTo at n m (i + 1)) (sym r.0) (
        (i, here, refl),
        λ j lt d. ⊎_elim
            (λ (before : j < i). λ less. was.1 j before d (is_order.0.trans (word_of at j) (word_of at i) best less r.1))
            (λ (from : i ≤ j). let same : j ≡ i = omega arith in subst (λ (k : ℕ). shortlex_cmp (word_of at k) (word_of at i) ≢ Less) (sym same) (not_before_itself (word_of at i)))
            (cases_lt j i),
      ))
      (λ (r : (result ≡ Some best) × (shortlex_cmp (word_of at i) best ≢ Less)).
      subst (IsFirstTo at n m (i + 1)) (sym r.0) (
        was.0,
        λ j lt d. ⊎_elim
            (λ (before : j < i). was.1 j before d)
            (λ (from : i ≤ j). let same : j ≡ i = omega arith in subst (λ (k : ℕ). shortlex_cmp (word_of at k) best ≢ Less) (sym same) r.1)
            (cases_lt j i),
      ))
      e

  pub first_step : (differs : Bool) (best result : Option (List ℕ)) → IsFirstTo at n m i best → (differs ≡ true) ↔ DiffersAt at n m i → (differs ≡ false → result ≡ best) → (differs ≡ true → IsEarlierOf best (word_of at i) result) → IsFirstTo at n m (i + 1) result
  first_step true best result was is same earlier = first_more best result was (is.0 refl) (earlier refl)
  first_step false best result was is same earlier = subst (IsFirstTo at n m (i + 1)) (sym (same refl)) (first_same best was (λ d. false≢true (is.1 d)))

pub first_none : (at : ℕ → Node) (n : ℕ) (m : Rows) (i : ℕ) → i ≤ 1 → IsFirstTo at n m i None
first_none at n m i le j lt d = omega (arith, d.positive)
