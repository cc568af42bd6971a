-- The search for access words, step by step.
use Rattle.std.proofs.Common.{◌≡◌, ◌≢◌, ℕ, ◌+◌, ◌<◌, ◌≤◌, ◌⊎◌, inl, inr, ⊎_elim, List, [], ◌∷◌, ◌++◌, length, get_or, Option, Some, None, true, false, is_none, refl, ap, sym, ◌∙◌, arith, subst, length-append}
use Rattle.std.specs.List.{sum_by}
use Rattle.std.proofs.Math.ListN.{set}
use Rattle.std.proofs.Math.Seq.{get_or-append_seam}
use Rattle.std.proofs.lemmas.List.{get_or_append_left, get_or-set_same, get_or-set_other, length-set, get_or_default}
use Rattle.std.proofs.lemmas.List.Sums.{sum_by-set}
use Rattle.std.proofs.lemmas.List.Elements.{All-push}
use Rattle.std.proofs.lemmas.Bool.{cases_lt, cases_order}
use Rattle.lw_words.specs.Word.{IsWord}
use Rattle.lw_mealy.specs.Machine.{Rows, after, next, cell}
use Rattle.lw_mealy.proofs.WordLemmas.{after-append}
use Rattle.lw_mealy.proofs.RowLemmas.{target_below}
use Rattle.lw_separate.specs.bodies.Search.{Before, AtMost}
use Rattle.lw_separate.specs.bodies.Search.{IsSearch, Closed, open_at}
use Rattle.lw_separate.proofs.Before.{before_trans, before_last, before_next}

-- what a test of an option says
pub is_none_value : (o : Option ℕ) → is_none o ≡ true → o ≡ None
is_none_value None h = refl
is_none_value (Some k) h = absurd (cc)

pub is_some_value : (o : Option ℕ) → is_none o ≡ false → (k : ℕ) × (o ≡ Some k)
is_some_value None h = absurd (cc)
is_some_value (Some k) h = (k, refl)

-- the target that is looked up, and the place that it has
pub target_seen : (m : Rows) (ss : List ℕ) (i x q : ℕ) (c : ℕ × ℕ) → i < length ss → q ≡ get_or ss i q → c ≡ cell m q x → c.0 ≡ next m (get_or ss i 0) x
target_seen m ss i x q c lt at is = ap (λ (d : ℕ × ℕ). d.0) is ∙ ap (λ (p : ℕ). next m p x) (at ∙ get_or_default ss i q 0 lt)

pub place_seen : (ps : List (Option ℕ)) (t q target : ℕ) (o : Option ℕ) → t < length ps → q ≡ t → t ≡ target → o ≡ get_or ps q o → get_or ps target None ≡ o
place_seen ps t q target o lt from is at = ap (λ (p : ℕ). get_or ps p None) (sym is ∙ sym from) ∙ sym (at ∙ get_or_default ps q o None (omega arith))

pub option_seen : (ps : List (Option ℕ)) (q : ℕ) (o : Option ℕ) → q < length ps → o ≡ get_or ps q o → get_or ps q None ≡ o
option_seen ps q o lt at = sym (at ∙ get_or_default ps q o None lt)

-- a place of a list with one element more
pub last_or_before : (k n : ℕ) → k < n + 1 → (k < n) ⊎ (k ≡ n)
last_or_before k n lt = ⊎_elim (λ (h : k < n). inl h) (λ (h : n ≤ k). inr (omega arith)) (cases_lt k n)

pub length-push : {X : Type 0} (xs : List X) (y : X) → length (xs ++ y ∷ []) ≡ length xs + 1
length-push xs y = omega (arith, length-append xs (y ∷ []))

pub at_end : {X : Type 0} (xs : List X) (y d : X) (k : ℕ) → k ≡ length xs → get_or (xs ++ y ∷ []) k d ≡ y
at_end xs y d k is = ap (λ (n : ℕ). get_or (xs ++ y ∷ []) n d) is ∙ get_or-append_seam xs y [] d

-- what holds of the elements of two lists, and of one more of each
pub pushed_pairs : {X Y : Type 0} (P : ℕ → X → Y → Type 0) (xs : List X) (ys : List Y) (x d : X) (y e : Y) → length xs ≡ length ys
    → ((k : ℕ) → k < length xs → P k (get_or xs k d) (get_or ys k e)) → P (length xs) x y → (k : ℕ) → k < length (xs ++ x ∷ []) → P k (get_or (xs ++ x ∷ []) k d) (get_or (ys ++ y ∷ []) k e)
pushed_pairs {X} {Y} P xs ys x d y e long old new k lt =
    ⊎_elim
    (λ (h : k < length xs). subst (λ (t : X). P k t (get_or (ys ++ y ∷ []) k e)) (sym (get_or_append_left xs (x ∷ []) d k h)) (subst (λ (t : Y). P k (get_or xs k d) t) (sym (get_or_append_left ys (y ∷ []) e k (omega arith))) (old k h)))
    (λ (h : k ≡ length xs). subst (λ (t : X). P k t (get_or (ys ++ y ∷ []) k e)) (sym (at_end xs x d k h)) (subst (λ (t : Y). P k x t) (sym (at_end ys y e k (h ∙ long))) (subst (λ (n : ℕ). P n x y) (sym h) new)))
    (last_or_before k (length xs) (omega (arith, length-push xs x)))

module _ (a : ℕ) (m : Rows) (ws : List (List ℕ)) (ss : List ℕ) (ps : List (Option ℕ)) (i x : ℕ) (s : IsSearch a m ws ss ps i x) (iw : i < length ws) where
  abbrev w : ℕ → List ℕ
  w k = get_or ws k []

  abbrev target : ℕ
  target = next m (get_or ss i 0) x

  -- all letters of a word are done
  pub word_done : x ≡ a → IsSearch a m ws ss ps (i + 1) 0
  word_done end = record {
    machine = s.machine;
    paired = s.paired;
    placed = s.placed;
    left = s.left;
    some = s.some;
    first = s.first;
    letters = s.letters;
    leads = s.leads;
    state = s.state;
    there = s.there;
    back = s.back;
    rising = s.rising;
    closed = λ j y lt jw ya. ⊎_elim (λ (h : j < i). s.closed j y h jw ya) (λ (h : j ≡ i). subst (λ (n : ℕ). Closed m ws ss n y) (sym h) (s.here y (omega arith) ya iw)) (last_or_before j i lt);
    here = λ y lt ya lw. absurd (omega arith);
    ahead = λ lw k kw. before_next (w i) (w (i + 1)) (w k) x 0 (s.rising i (i + 1) (omega arith) lw) (s.ahead iw k kw);
  }

  -- the letter leads to a state that has a word
  pub letter_known : (place : ℕ) → get_or ps target None ≡ Some place → IsSearch a m ws ss ps i (x + 1)
  letter_known place at =
      let h = s.back target place at in
      record {
        machine = s.machine;
        paired = s.paired;
        placed = s.placed;
        left = s.left;
        some = s.some;
        first = s.first;
        letters = s.letters;
        leads = s.leads;
        state = s.state;
        there = s.there;
        back = s.back;
        rising = s.rising;
        closed = s.closed;
        here = λ y lt ya lw. ⊎_elim (λ (l : y < x). s.here y l ya lw) (λ (e : y ≡ x). subst (λ (n : ℕ). Closed m ws ss i n) (sym e) (place, h.0, h.1, inr (s.ahead iw place h.0))) (last_or_before y x lt);
        ahead = λ lw k kw. before_trans (w k) (w i ++ x ∷ []) (w i ++ (x + 1) ∷ []) (s.ahead iw k kw) (before_last (w i) x (x + 1) (omega arith));
      }

  -- the letter leads to a new state
  module _ (xa : x < a) (new : get_or ps target None ≡ None) where
    abbrev word : List ℕ
    word = w i ++ x ∷ []

    abbrev ws' : List (List ℕ)
    ws' = ws ++ word ∷ []

    abbrev ss' : List ℕ
    ss' = ss ++ target ∷ []

    abbrev ps' : List (Option ℕ)
    ps' = set ps target (Some (length ss))

    below : target < length m
    below = target_below a m (get_or ss i 0) x s.machine (s.state i iw) xa

    apart : (k : ℕ) → k < length ws → get_or ss k 0 ≢ target
    apart k kw same = let no : Some k ≡ None = sym (s.there k kw) ∙ (ap (λ (q : ℕ). get_or ps q None) same ∙ new) in absurd (cc)

    closed_still : (j y : ℕ) → j < length ws → Closed m ws ss j y → Closed m ws' ss' j y
    closed_still j y jw (k, kw, is, most) = (
      k,
      omega (arith, length-push ws word),
      get_or_append_left ss (target ∷ []) 0 k (omega (arith, s.paired)) ∙ (is ∙ ap (λ (q : ℕ). next m q y) (sym (get_or_append_left ss (target ∷ []) 0 j (omega (arith, s.paired))))),
      subst (λ (u : List ℕ). AtMost u (get_or ws' j [] ++ y ∷ [])) (sym (get_or_append_left ws (word ∷ []) [] k kw)) (subst (λ (u : List ℕ). AtMost (w k) (u ++ y ∷ [])) (sym (get_or_append_left ws (word ∷ []) [] j jw)) most),
    )

    i_same : get_or ws' i [] ≡ w i
    i_same = get_or_append_left ws (word ∷ []) [] i iw

    leads_new : after m 0 word ≡ target
    leads_new = after-append m 0 (w i) (x ∷ []) ∙ ap (λ (q : ℕ). next m q x) (s.leads i iw)

    there_still : (k : ℕ) → k < length ws → get_or ps' (get_or ss k 0) None ≡ Some k
    there_still k kw = get_or-set_other ps target (get_or ss k 0) (Some (length ss)) None (apart k kw) ∙ s.there k kw

    there_new : get_or ps' target None ≡ Some (length ws)
    there_new = get_or-set_same ps target (Some (length ss)) None (omega (arith, s.placed, below)) ∙ ap (λ (n : ℕ). Some n) (sym s.paired)

    back_still : (q k : ℕ) → get_or ps' q None ≡ Some k → (k < length ws') × (get_or ss' k 0 ≡ q)
    back_still q k at =
        ⊎_elim
        (λ (same : q ≡ target).
        let e : Some (length ws) ≡ Some k = sym there_new ∙ (ap (λ (p : ℕ). get_or ps' p None) (sym same) ∙ at) in
        let n : length ws ≡ k = cc in
        (omega (arith, length-push ws word, n), at_end ss target 0 k (sym n ∙ s.paired) ∙ sym same))
        (λ (d : (q < target) ⊎ (target < q)).
        let other : q ≢ target = λ e. ⊎_elim (λ (l : q < target). omega arith) (λ (l : target < q). omega arith) d in
        let h = s.back q k (sym (get_or-set_other ps target q (Some (length ss)) None other) ∙ at) in
        (omega (arith, length-push ws word, h.0), get_or_append_left ss (target ∷ []) 0 k (omega (arith, s.paired, h.0)) ∙ h.1))
        (cases_order q target)

    rising_still : (j k : ℕ) → j < k → k < length ws' → Before (get_or ws' j []) (get_or ws' k [])
    rising_still j k jk kw =
        ⊎_elim
        (λ (h : k < length ws). subst (λ (u : List ℕ). Before u (get_or ws' k [])) (sym (get_or_append_left ws (word ∷ []) [] j (omega arith))) (subst (λ (u : List ℕ). Before (w j) u) (sym (get_or_append_left ws (word ∷ []) [] k h)) (s.rising j k jk h)))
        (λ (h : k ≡ length ws). subst (λ (u : List ℕ). Before u (get_or ws' k [])) (sym (get_or_append_left ws (word ∷ []) [] j (omega arith))) (subst (λ (u : List ℕ). Before (w j) u) (sym (at_end ws word [] k h)) (s.ahead iw j (omega arith))))
        (last_or_before k (length ws) (omega (arith, length-push ws word, kw)))

    here_still : (y : ℕ) → y < x + 1 → y < a → i < length ws' → Closed m ws' ss' i y
    here_still y lt ya lw =
        ⊎_elim
        (λ (l : y < x). closed_still i y iw (s.here y l ya iw))
        (λ (e : y ≡ x). subst (λ (n : ℕ). Closed m ws' ss' i n) (sym e) (
          length ws,
          omega (arith, length-push ws word),
          at_end ss target 0 (length ws) s.paired ∙ ap (λ (q : ℕ). next m q x) (sym (get_or_append_left ss (target ∷ []) 0 i (omega (arith, s.paired)))),
          inl (at_end ws word [] (length ws) refl ∙ ap (λ (u : List ℕ). u ++ x ∷ []) (sym i_same)),
        ))
        (last_or_before y x lt)

    ahead_still : (k : ℕ) → k < length ws' → Before (get_or ws' k []) (get_or ws' i [] ++ (x + 1) ∷ [])
    ahead_still k kw =
        subst (λ (u : List ℕ). Before (get_or ws' k []) (u ++ (x + 1) ∷ [])) (sym i_same)
        (⊎_elim
        (λ (h : k < length ws). subst (λ (u : List ℕ). Before u (w i ++ (x + 1) ∷ [])) (sym (get_or_append_left ws (word ∷ []) [] k h)) (before_trans (w k) word (w i ++ (x + 1) ∷ []) (s.ahead iw k h) (before_last (w i) x (x + 1) (omega arith))))
        (λ (h : k ≡ length ws). subst (λ (u : List ℕ). Before u (w i ++ (x + 1) ∷ [])) (sym (at_end ws word [] k h)) (before_last (w i) x (x + 1) (omega arith)))
        (last_or_before k (length ws) (omega (arith, length-push ws word, kw))))

    left_still : length ss' + sum_by open_at ps' ≡ length m
    left_still =
        let e : sum_by open_at ps' + open_at (get_or ps target None) ≡ sum_by open_at ps + 0 = sum_by-set open_at ps target (Some (length ss)) None (omega (arith, s.placed, below)) in
        let one : open_at (get_or ps target None) ≡ 1 = ap open_at new in
        omega (arith, length-push ss target, s.left, e, one)

    letter_new : IsSearch a m ws' ss' ps' i (x + 1)
    letter_new = record {
      machine = s.machine;
      paired = omega (arith, length-push ws word, length-push ss target, s.paired);
      placed = length-set ps target (Some (length ss)) ∙ s.placed;
      left = left_still;
      some = omega (arith, length-push ws word);
      first = get_or_append_left ws (word ∷ []) [] 0 s.some ∙ s.first;
      letters = pushed_pairs (λ k u q. IsWord a u) ws ss word [] target 0 s.paired s.letters (All-push (λ y. y < a) (w i) x (s.letters i iw) xa);
      leads = pushed_pairs (λ k u q. after m 0 u ≡ q) ws ss word [] target 0 s.paired s.leads leads_new;
      state = pushed_pairs (λ k u q. q < length m) ws ss word [] target 0 s.paired s.state below;
      there = pushed_pairs (λ k u q. get_or ps' q None ≡ Some k) ws ss word [] target 0 s.paired there_still there_new;
      back = back_still;
      rising = rising_still;
      closed = λ j y lt jw ya. closed_still j y (omega arith) (s.closed j y lt (omega arith) ya);
      here = here_still;
      ahead = λ lw. ahead_still;
    }

    -- the same of lists that are equal to these
    pub letter_found : (vs : List (List ℕ)) (ts : List ℕ) (qs : List (Option ℕ)) → vs ≡ ws' → ts ≡ ss' → qs ≡ ps' → IsSearch a m vs ts qs i (x + 1)
    letter_found vs ts qs ev et eq =
        subst (λ (u : List (List ℕ)). IsSearch a m u ts qs i (x + 1)) (sym ev)
        (subst (λ (u : List ℕ). IsSearch a m ws' u qs i (x + 1)) (sym et)
        (subst (λ (u : List (Option ℕ)). IsSearch a m ws' ss' u i (x + 1)) (sym eq) letter_new))
