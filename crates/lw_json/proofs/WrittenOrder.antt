-- There is one order in which answers are written.
use Rattle.std.proofs.Common.{◌≡◌, ◌∙◌, ℕ, suc, ◌+◌, ◌<◌, ◌≤◌, List, [], ◌∷◌, Bool, true, false, cond, length, map, get_or, refl, sym, ap, subst, arith, is_lt}
use Rattle.std.specs.Cmp.{IsTotalOrder, IsStrictWeakOrder}
use Rattle.std.specs.List.{All, filter}
use Rattle.std.specs.List.Sorted.{IsSortedBy, IsStableBy, ties}
use Rattle.std.proofs.lemmas.Cmp.{then_total, on_total, nat_cmp_total}
use Rattle.std.proofs.lemmas.List.{length-map, get_or-map}
use Rattle.std.proofs.lemmas.List.Elements.{All-cons, All-head, All-tail}
use Rattle.std.proofs.lemmas.List.Sorted.{ranks_by, sorted_far}
use Rattle.lw_words.specs.declared.kept.KeptAnswer.{KeptAnswer}
use Rattle.lw_words.proofs.Orders.{is_order}
use Rattle.lw_json.specs.AnswersText.{answer_cmp, IsWrittenOrder}

pub answer_cmp_total : IsTotalOrder answer_cmp
answer_cmp_total = then_total (then_total (on_total (λ (k : KeptAnswer). k.word) is_order.0) (on_total (λ (k : KeptAnswer). k.instance) nat_cmp_total)) (on_total (λ (k : KeptAnswer). k.run) nat_cmp_total)

head_same : {X : Type 0} (x y : X) (xs ys : List X) → x ∷ xs ≡ y ∷ ys → x ≡ y
head_same x y xs ys e = ap (λ l. get_or l 0 x) e

abbrev tail_of : {X : Type 0} → List X → List X
tail_of [] = []
tail_of (x ∷ xs) = xs

module _ {X : Type 0} (t : X → Bool) where
  -- the first of the elements that pass is one of the list, and passes
  first_passes : (P : X → Type 0) (xs : List X) (u : X) (rest : List X) → All P xs → filter t xs ≡ u ∷ rest → P u
  first_passes P [] u rest all e = absurd (omega (arith, ap length e))
  first_passes P (x ∷ xs) u rest all e = by_test (t x) (first_passes P xs u rest (All-tail P x xs all)) e where
    by_test : (b : Bool) → (filter t xs ≡ u ∷ rest → P u) → cond b (x ∷ filter t xs) (filter t xs) ≡ u ∷ rest → P u
    by_test true later e = subst P (head_same x u (filter t xs) rest e) (All-head P x xs all)
    by_test false later e = later e

  rest_same : (b : Bool) (x : X) (xs ys : List X) → cond b (x ∷ xs) xs ≡ cond b (x ∷ ys) ys → xs ≡ ys
  rest_same true x xs ys e = ap tail_of e
  rest_same false x xs ys e = e

module _ {X : Type 0} (lt : X → X → Bool) (o : IsStrictWeakOrder lt) where
  not_itself : (x : X) (b : Bool) → lt x x ≡ b → b ≡ false
  not_itself x true e = sym e ∙ o.one_way x x e
  not_itself x false e = refl

  ties_with : (x y : X) → lt x y ≡ false → lt y x ≡ false → ties lt x y ≡ true
  ties_with x y e f = rw (e, f) refl

  -- each element is less than none before it
  abbrev Rises : List X → Type 0
  Rises [] = Unit {0}
  Rises (x ∷ xs) = All (λ u. lt u x ≡ false) xs × Rises xs

  rises : (xs : List X) → ((i j : ℕ) (d : X) → i ≤ j → j < length xs → lt (get_or xs j d) (get_or xs i d) ≡ false) → Rises xs
  rises [] h = tt
  rises (x ∷ xs) h = (λ k d below. h 0 (suc k) d (omega arith) (omega arith), rises xs (λ i j d le below. h (suc i) (suc j) d (omega arith) (omega arith)))

  starts : (x : X) (xs : List X) → filter (ties lt x) (x ∷ xs) ≡ x ∷ filter (ties lt x) xs
  starts x xs = ap (λ (b : Bool). cond b (x ∷ filter (ties lt x) xs) (filter (ties lt x) xs)) (ties_with x x (not_itself x (lt x x) refl) (not_itself x (lt x x) refl))

  least : (x : X) (xs : List X) → Rises (x ∷ xs) → All (λ u. lt u x ≡ false) (x ∷ xs)
  least x xs h = All-cons (λ u. lt u x ≡ false) x xs (not_itself x (lt x x) refl) h.0

  one_list : (ys zs : List X) → Rises ys → Rises zs → ((x : X) → filter (ties lt x) ys ≡ filter (ties lt x) zs) → ys ≡ zs
  one_list [] [] up up' same = refl
  one_list [] (z ∷ zs) up up' same = absurd (omega (arith, ap length (same z ∙ starts z zs)))
  one_list (y ∷ ys) [] up up' same = absurd (omega (arith, ap length (sym (same y) ∙ starts y ys)))
  one_list (y ∷ ys) (z ∷ zs) up up' same =
      let below : lt z y ≡ false = first_passes (ties lt z) (λ u. lt u y ≡ false) (y ∷ ys) z (filter (ties lt z) zs) (least y ys up) (same z ∙ starts z zs) in
      let above : lt y z ≡ false = first_passes (ties lt y) (λ u. lt u z ≡ false) (z ∷ zs) y (filter (ties lt y) ys) (least z zs up') (sym (same y) ∙ starts y ys) in
      let there : filter (ties lt y) (z ∷ zs) ≡ z ∷ filter (ties lt y) zs = ap (λ (b : Bool). cond b (z ∷ filter (ties lt y) zs) (filter (ties lt y) zs)) (ties_with y z above below) in
      let first : y ≡ z = head_same y z (filter (ties lt y) ys) (filter (ties lt y) zs) (sym (starts y ys) ∙ (same y ∙ there)) in
      let moved : (x : X) → filter (ties lt x) (y ∷ ys) ≡ filter (ties lt x) (y ∷ zs) = λ x. same x ∙ ap (λ (u : X). filter (ties lt x) (u ∷ zs)) (sym first) in
      let rest : ys ≡ zs = one_list ys zs up.1 up'.1 (λ x. rest_same (ties lt x) (ties lt x y) y (filter (ties lt x) ys) (filter (ties lt x) zs) (moved x)) in
      ap (λ (l : List X). y ∷ l) rest ∙ ap (λ (u : X). u ∷ zs) first

  pub one_order : (xs ys zs : List X) → IsSortedBy lt ys → IsSortedBy lt zs → IsStableBy lt xs ys → IsStableBy lt xs zs → ys ≡ zs
  one_order xs ys zs up up' stable stable' = one_list ys zs (rises ys (sorted_far lt o ys up)) (rises zs (sorted_far lt o zs up')) (λ x. stable x ∙ sym (stable' x))

abbrev pub comes_first : KeptAnswer → KeptAnswer → Bool
comes_first k l = is_lt (answer_cmp k l)

pub ranked : IsStrictWeakOrder comes_first
ranked = ranks_by answer_cmp_total (λ k. k)

pub one_written_order : (xs ys zs : List KeptAnswer) → IsWrittenOrder xs ys → IsWrittenOrder xs zs → ys ≡ zs
one_written_order xs ys zs h g = one_order comes_first ranked xs ys zs h.sorted g.sorted h.stable g.stable

-- a list that was sorted through a function
module _ {V X : Type 0} (v : V → X) (lt : X → X → Bool) where
  pub sorted-map : (xs : List V) → IsSortedBy (λ a b. lt (v a) (v b)) xs → IsSortedBy lt (map v xs)
  sorted-map [] h k d le below = absurd (omega arith)
  sorted-map (x ∷ xs) h k d le below =
      let long = length-map (x ∷ xs) v in
      let lower : k + 1 < length (x ∷ xs) = omega arith in
      rw (get_or-map v (x ∷ xs) (k + 1) x d lower, get_or-map v (x ∷ xs) k x d (omega arith)) (h k x le lower)

  filter-map_same : (t : X → Bool) (xs : List V) → filter t (map v xs) ≡ map v (filter (λ a. t (v a)) xs)
  filter-map_same t [] = refl
  filter-map_same t (x ∷ xs) = by_test (t (v x)) (filter-map_same t xs) where
    by_test : (b : Bool) → filter t (map v xs) ≡ map v (filter (λ a. t (v a)) xs) → cond b (v x ∷ filter t (map v xs)) (filter t (map v xs)) ≡ map v (cond b (x ∷ filter (λ a. t (v a)) xs) (filter (λ a. t (v a)) xs))
    by_test true rest = ap (λ (l : List X). v x ∷ l) rest
    by_test false rest = rest

  pub stable-map : (back : X → V) → ((x : X) → v (back x) ≡ x) → (xs ys : List V) → IsStableBy (λ a b. lt (v a) (v b)) xs ys → IsStableBy lt (map v xs) (map v ys)
  stable-map back is xs ys h x =
      subst (λ (u : X). filter (ties lt u) (map v ys) ≡ filter (ties lt u) (map v xs)) (is x)
      (filter-map_same (ties lt (v (back x))) ys ∙ (ap (map v) (h (back x)) ∙ sym (filter-map_same (ties lt (v (back x))) xs)))
