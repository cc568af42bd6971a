-- The greedy choice of words: how the states that are left become fewer, that in the end each other state is separated, and that
-- there is one such choice.
use Rattle.std.proofs.Common.{◌≡◌, ◌≢◌, ℕ, ◌+◌, ◌<◌, ◌≤◌, ◌⊎◌, ⊎_elim, Bool, true, false, not, eqb, cond, List, [], ◌∷◌, ◌++◌, length, get_or, map, All, Contains, refl, sym, ap, ap₂, ◌∙◌, subst, arith, append-nil, append_assoc}
use Rattle.std.specs.List.{count_by, filter, IsFirstMaxByKey}
use Rattle.std.proofs.lemmas.Bool.{cases_Bool, cases_eq, cases_order, cond-true, cond-false, true≢false, eqb-true, eq-eqb}
use Rattle.std.proofs.lemmas.List.{get_or_default}
use Rattle.std.proofs.lemmas.List.Elements.{All-nil, All-cons, All-head, All-tail, All-filter, All-get_or, All-weaker, All-contains, Contains-get_or, filter_passes}
use Rattle.std.proofs.lemmas.List.FromFn.{fill_by_all}
use Rattle.std.proofs.lemmas.List.Sums.{get_or-le-sum_by, sum_by-cons, sum_by-le, best_keeps, best_takes}
use Rattle.lw_mealy.specs.Machine.{Rows, out}
use Rattle.lw_separate.specs.Separators.{IsSeparators, SplitAt}
use Rattle.lw_separate.specs.WordClasses.{AreClassesOn}
use Rattle.lw_wp.specs.Identification.{separates}
use Rattle.lw_wp.specs.GreedySuite.{IsGreedy, is_alike, separated_of, states_of}
use Rattle.lw_wp.proofs.FilterLemmas.{contains_tail, stays}
use Rattle.lw_wp.proofs.MarkLemmas.{contains_range, range_below}
use Rattle.lw_wp.proofs.SeparationLemmas.{agree_separates, separates_by, separates_differ, differ_separates}
use Rattle.lw_wp.proofs.TellsLemmas.{split_both}

-- the best so far, by what the loop has of it
module _ (n : List ℕ → ℕ) (words : List (List ℕ)) (i b most count : ℕ) (best : IsFirstMaxByKey n words i b) (lt : i < length words) (was : most ≡ n (get_or words b [])) (is : count ≡ n (get_or words i [])) where
  at_default : (j : ℕ) (d : List ℕ) → j < length words → n (get_or words j d) ≡ n (get_or words j [])
  at_default j d lj = ap n (get_or_default words j d [] lj)

  in_list : b < length words
  in_list = let l = best.0 in omega (arith, l, lt)

  pub kept : count ≤ most → IsFirstMaxByKey n words (i + 1) b
  kept le = best_keeps n words i b best (λ d. let u = at_default i d lt in let v = at_default b d in_list in omega (arith, u, v, was, is, le))

  pub taken : most < count → IsFirstMaxByKey n words (i + 1) i
  taken gt = best_takes n words i b best (λ d. let u = at_default i d lt in let v = at_default b d in_list in omega (arith, u, v, was, is, gt))

-- there is one best
one_best : (n : List ℕ → ℕ) (words : List (List ℕ)) (i j : ℕ) → IsFirstMaxByKey n words (length words) i → IsFirstMaxByKey n words (length words) j → i ≡ j
one_best n words i j hi hj =
    ⊎_elim
    (λ (e : i ≡ j). e)
    (λ (o : (i < j) ⊎ (j < i)). ⊎_elim
    (λ (l : i < j). absurd (let u = hj.2 i [] l in let v = hi.1 j [] hj.0 in omega (arith, u, v)))
    (λ (l : j < i). absurd (let u = hi.2 j [] l in let v = hj.1 i [] hi.0 in omega (arith, u, v)))
    o)
    (cases_order i j)

abbrev one_if : Bool → ℕ
one_if b = cond b 1 0

module _ (h : Rows) (q : ℕ) (w : List ℕ) where
  pub alike_other : (p : ℕ) → is_alike h q w p ≡ true → p ≢ q
  alike_other p t e = true≢false (sym t ∙ cond-true (eqb p q) false (not (separates h q p w)) (eq-eqb p q e))

  alike_same : (p : ℕ) → p ≢ q → separates h q p w ≡ false → is_alike h q w p ≡ true
  alike_same p n f =
      ⊎_elim
      (λ (e : eqb p q ≡ true). absurd (n (eqb-true p q e)))
      (λ (e : eqb p q ≡ false). cond-false (eqb p q) false (not (separates h q p w)) e ∙ ap not f)
      (cases_Bool (eqb p q))

  alike_agrees : (p : ℕ) → separates h q p w ≡ true → is_alike h q w p ≡ false
  alike_agrees p t =
      ⊎_elim
      (λ (e : eqb p q ≡ true). cond-true (eqb p q) false (not (separates h q p w)) e)
      (λ (e : eqb p q ≡ false). cond-false (eqb p q) false (not (separates h q p w)) e ∙ ap not t)
      (cases_Bool (eqb p q))

  -- each state is separated, or stays, or is neither
  pub fewer : (states : List ℕ) → separated_of h q states w + length (filter (is_alike h q w) states) ≤ length states
  fewer [] = omega arith
  fewer (p ∷ states) =
      let l = sum_by-cons (λ (r : ℕ). one_if (separates h q r w)) p states in
      let more = fewer states in
      ⊎_elim
      (λ (t : separates h q p w ≡ true).
      let one : ◌≡◌ {A = ℕ} (one_if (separates h q p w)) 1 = cond-true {A = ℕ} (separates h q p w) 1 0 t in
      let gone = ap length (cond-false (is_alike h q w p) (p ∷ filter (is_alike h q w) states) (filter (is_alike h q w) states) (alike_agrees p t)) in
      omega (arith, l, more, one, gone))
      (λ (f : separates h q p w ≡ false).
      let none : ◌≡◌ {A = ℕ} (one_if (separates h q p w)) 0 = cond-false {A = ℕ} (separates h q p w) 1 0 f in
      ⊎_elim
      (λ (t : is_alike h q w p ≡ true).
      let there = ap length (cond-true (is_alike h q w p) (p ∷ filter (is_alike h q w) states) (filter (is_alike h q w) states) t) in
      omega (arith, l, more, none, there))
      (λ (f : is_alike h q w p ≡ false).
      let gone = ap length (cond-false (is_alike h q w p) (p ∷ filter (is_alike h q w) states) (filter (is_alike h q w) states) f) in
      omega (arith, l, more, none, gone))
      (cases_Bool (is_alike h q w p)))
      (cases_Bool (separates h q p w))

-- a vector that isn't empty
pub some_left : (b : Bool) (n l : ℕ) → b ≡ eqb n 0 → b ≡ false → l ≡ n → 0 < l
some_left b n l is f long =
    let other : n ≢ 0 = λ e. true≢false (sym (eq-eqb n 0 e) ∙ (sym is ∙ f)) in
    omega (arith, other, long)

module _ (h : Rows) (words : List (List ℕ)) (q : ℕ) where
  -- the choices so far, of all states, go on as the choices for those that are left do
  abbrev pub GoesOn : List ℕ → List ℕ → List ℕ → Type 0
  GoesOn all left numbers = (more : List ℕ) → IsGreedy h words q left more → IsGreedy h words q all (numbers ++ more)

  pub goes_on : (all left numbers next_left : List ℕ) (next : ℕ) → GoesOn all left numbers → IsFirstMaxByKey (separated_of h q left) words (length words) next
      → 0 < separated_of h q left (get_or words next []) → next_left ≡ filter (is_alike h q (get_or words next [])) left → GoesOn all next_left (numbers ++ next ∷ [])
  goes_on all left numbers next_left next so_far best some is more g =
      subst (IsGreedy h words q all) (sym (append_assoc numbers (next ∷ []) more))
      (so_far (next ∷ more) (best, some, subst (λ (l : List ℕ). IsGreedy h words q l more) is g))

  pub none_left : (all left numbers : List ℕ) → GoesOn all left numbers → length left ≡ 0 → IsGreedy h words q all numbers
  none_left all left numbers so_far none =
      subst (IsGreedy h words q all) (append-nil numbers) (so_far [] (λ k d lt. absurd (omega (arith, lt, none))))

  pub others_left : (left next_left : List ℕ) (w : List ℕ) → next_left ≡ filter (is_alike h q w) left → All (λ p. p ≢ q) next_left
  others_left left next_left w is =
      subst (All (λ (p : ℕ). p ≢ q)) (sym is) (All-weaker (λ (p : ℕ). is_alike h q w p ≡ true) (λ (p : ℕ). p ≢ q) (alike_other h q w) (filter (is_alike h q w) left) (filter_passes (is_alike h q w) left))

  pub states_left : (left next_left : List ℕ) (w : List ℕ) → next_left ≡ filter (is_alike h q w) left → All (λ p. p < length h) left → All (λ p. p < length h) next_left
  states_left left next_left w is below = subst (All (λ (p : ℕ). p < length h)) (sym is) (All-filter (is_alike h q w) (λ (p : ℕ). p < length h) left below)

  module _ (a : ℕ) (separating : IsSeparators a h words) (lq : q < length h) where
    -- the best word separates a state from q, where there is another one
    pub some_separated : (left : List ℕ) (p best : ℕ) → Contains left p → p < length h → p ≢ q → IsFirstMaxByKey (separated_of h q left) words (length words) best
        → 0 < separated_of h q left (get_or words best [])
    some_separated left p best at lp n is =
        let s = split_both a h words separating q p lq lp (λ e. n (sym e)) in
        let w : List ℕ = get_or words s.0 [] in
        let t : separates h q (get_or left at.0 p) w ≡ true = ap (λ (r : ℕ). separates h q r w) at.2 ∙ differ_separates h q p w s.1.1 in
        let one : ◌≡◌ {A = ℕ} (one_if (separates h q (get_or left at.0 p) w)) 1 = cond-true {A = ℕ} (separates h q (get_or left at.0 p) w) 1 0 t in
        let counted = get_or-le-sum_by (λ (r : ℕ). one_if (separates h q r w)) left at.0 p at.1 in
        let most = is.1 s.0 [] s.1.0 in
        omega (arith, one, counted, most)

    -- of all states
    pub some_of_all : (best : ℕ) → length words < length h → IsFirstMaxByKey (separated_of h q (states_of h)) words (length words) best
        → 0 < separated_of h q (states_of h) (get_or words best [])
    some_of_all best few is =
        let b = is.0 in
        ⊎_elim
        (λ (e : q ≡ 0). some_separated (states_of h) 1 best (contains_range (length h) 1 (omega (arith, b, few))) (omega (arith, b, few)) (λ f. let g : 1 ≡ 0 = f ∙ e in omega (arith, g)) is)
        (λ (o : q ≡ 0 → ⊥). some_separated (states_of h) 0 best (contains_range (length h) 0 (omega (arith, lq))) (omega (arith, lq)) (λ f. o (sym f)) is)
        (cases_eq q 0)

    -- of those that are left
    pub some_of_left : (left : List ℕ) (best : ℕ) → All (λ p. p < length h) left → All (λ p. p ≢ q) left → 0 < length left
        → IsFirstMaxByKey (separated_of h q left) words (length words) best → 0 < separated_of h q left (get_or words best [])
    some_of_left left best below others some is =
        some_separated left (get_or left 0 0) best (Contains-get_or left 0 0 some) (All-get_or (λ (p : ℕ). p < length h) left 0 0 some below) (All-get_or (λ (p : ℕ). p ≢ q) left 0 0 some others) is

    -- where there are no words there is no other state
    pub none_other : length words ≡ 0 → IsGreedy h words q (states_of h) []
    none_other none k d lt =
        let p : ℕ = get_or (states_of h) k d in
        ⊎_elim
        (λ (e : p ≡ q). e)
        (λ (n : p ≡ q → ⊥). absurd (let s = split_both a h words separating q p lq (range_below (length h) k d lt) (λ e. n (sym e)) in let l = s.1.0 in omega (arith, l, none)))
        (cases_eq p q)

  -- fewer states are left
  pub fewer_left : (left next_left w : List ℕ) → 0 < separated_of h q left w → next_left ≡ filter (is_alike h q w) left → length next_left < length left
  fewer_left left next_left w some is = let f = fewer h q w left in let l = ap length is in omega (arith, f, l, some)

  -- numbers of words
  pub greedy_below : (left numbers : List ℕ) → IsGreedy h words q left numbers → All (λ i. i < length words) numbers
  greedy_below left [] g = All-nil (λ (i : ℕ). i < length words)
  greedy_below left (i ∷ more) g = All-cons (λ (j : ℕ). j < length words) i more g.0.0 (greedy_below (filter (is_alike h q (get_or words i [])) left) more g.2)

  -- one of them separates each other state that was left
  pub greedy_apart : (p : ℕ) → p ≢ q → (left numbers : List ℕ) → IsGreedy h words q left numbers → Contains left p → (i : ℕ) × Contains numbers i × SplitAt h words q p i
  greedy_apart p n left [] g at = absurd (n (All-contains (λ (r : ℕ). r ≡ q) left p g at))
  greedy_apart p n left (i ∷ more) g at =
      let w : List ℕ = get_or words i [] in
      ⊎_elim
      (λ (t : separates h q p w ≡ true). (i, (0, omega arith, refl), (g.0.0, separates_differ h q p w t)))
      (λ (f : separates h q p w ≡ false).
      let s = greedy_apart p n (filter (is_alike h q w) left) more g.2 (stays (is_alike h q w) p (alike_same h q w p n f) left at) in
      (s.0, contains_tail i s.0 more s.1, s.2))
      (cases_Bool (separates h q p w))

  none_separated : (w left : List ℕ) → All (λ p. p ≡ q) left → separated_of h q left w ≤ 0
  none_separated w left all =
      let none : (p : ℕ) → p ≡ q → one_if (separates h q p w) ≤ 0 = λ p e.
      let c : ◌≡◌ {A = ℕ} (one_if (separates h q p w)) 0 = cond-false {A = ℕ} (separates h q p w) 1 0 (agree_separates h q p w (ap (λ (r : ℕ). out h r w) (sym e))) in
      omega (arith, c) in
      let l = sum_by-le (λ (p : ℕ). one_if (separates h q p w)) 0 left (All-weaker (λ (p : ℕ). p ≡ q) (λ (p : ℕ). one_if (separates h q p w) ≤ 0) none left all) in
      omega (arith, l)

  -- there is one greedy choice
  pub one_greedy : (left numbers others : List ℕ) → IsGreedy h words q left numbers → IsGreedy h words q left others → numbers ≡ others
  one_greedy left [] [] g k = refl
  one_greedy left [] (j ∷ others) g k = absurd (let z = none_separated (get_or words j []) left g in let s = k.1 in omega (arith, z, s))
  one_greedy left (i ∷ numbers) [] g k = absurd (let z = none_separated (get_or words i []) left k in let s = g.1 in omega (arith, z, s))
  one_greedy left (i ∷ numbers) (j ∷ others) g k =
      let e : i ≡ j = one_best (separated_of h q left) words i j g.0 k.0 in
      let rest : IsGreedy h words q (filter (is_alike h q (get_or words i [])) left) others =
      subst (λ (x : ℕ). IsGreedy h words q (filter (is_alike h q (get_or words x [])) left) others) (sym e) k.2 in
      ap₂ (λ (x : ℕ) (l : List ℕ). x ∷ l) e (one_greedy (filter (is_alike h q (get_or words i [])) left) numbers others g.2 rest)

-- how many states a word separates, by the classes on it
module _ (h : Rows) (w classes : List ℕ) (q : ℕ) (on : AreClassesOn h w classes) (lq : q < length h) where
  abbrev class_of : ℕ → ℕ
  class_of p = get_or classes p 0

  abbrev other : ℕ → Bool
  other c = not (eqb (class_of q) c)

  counted : (states : List ℕ) → All (λ p. p < length h) states → count_by other (map class_of states) ≡ separated_of h q states w
  counted [] all = refl
  counted (p ∷ states) all =
      let here : other (class_of p) ≡ separates h q p w = separates_by h q p w classes on lq (All-head (λ (r : ℕ). r < length h) p states all) in
      let more = counted states (All-tail (λ (r : ℕ). r < length h) p states all) in
      sum_by-cons (λ (c : ℕ). one_if (other c)) (class_of p) (map class_of states)
      ∙ (ap₂ (λ (x y : ℕ). x + y) (ap one_if here) more ∙ sym (sum_by-cons (λ (r : ℕ). one_if (separates h q r w)) p states))

  pub counted_by_class : count_by other classes ≡ separated_of h q (states_of h) w
  counted_by_class =
      ap (count_by other) (fill_by_all class_of classes (length h) 0 on.long (λ k lt. refl)) ∙ counted (states_of h) (range_below (length h))
