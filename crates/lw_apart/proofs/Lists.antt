-- What holds of each element of joined lists, and the first place at which it fails.
use Rattle.std.proofs.Common.{◌≡◌, ℕ, zero, suc, ◌+◌, ◌-◌, ◌<◌, ◌≤◌, ⊎_elim, List, [], ◌∷◌, ◌++◌, length, map, get_or, sym, ◌∙◌, subst, arith}
use Rattle.std.specs.List.{All, AllWithin, flat_map, range_with_len}
use Rattle.std.proofs.lemmas.Bool.{cases_lt}
use Rattle.std.proofs.lemmas.List.{length-append, length-map, get_or_append_left, get_or-append-add, get_or-map}
use Rattle.std.proofs.lemmas.List.Elements.{All-nil, All-cons, All-append, All-get_or, All-from_get_or}
use Rattle.std.proofs.lemmas.List.FromFn.{length-range_with_len, get_or-range_with_len}
use Rattle.lw_words.specs.First.{FailsFirst}

module _ {X : Type 0} (P : X → Type 0) where
  pub all_left : (xs ys : List X) → All P (xs ++ ys) → All P xs
  all_left xs ys all = λ k d lt. subst P (get_or_append_left xs ys d k lt) (all k d (omega (arith, lt, length-append xs ys)))

  pub all_right : (xs ys : List X) → All P (xs ++ ys) → All P ys
  all_right xs ys all = λ k d lt. subst P (get_or-append-add xs ys k d) (all (length xs + k) d (omega (arith, lt, length-append xs ys)))

  pub first_left : (xs ys : List X) (i : ℕ) → FailsFirst P xs i → FailsFirst P (xs ++ ys) i
  first_left xs ys i f =
      record {
        within = omega (arith, f.within, length-append xs ys);
        fails = λ d. subst (λ (x : X). ¬ P x) (sym (get_or_append_left xs ys d i f.within)) (f.fails d);
        before = λ k d ge lt. subst P (sym (get_or_append_left xs ys d k (omega (arith, lt, f.within)))) (f.before k d ge lt);
      }

  pub first_right : (xs ys : List X) (i : ℕ) → All P xs → FailsFirst P ys i → FailsFirst P (xs ++ ys) (length xs + i)
  first_right xs ys i all f =
      record {
        within = omega (arith, f.within, length-append xs ys);
        fails = λ d. subst (λ (x : X). ¬ P x) (sym (get_or-append-add xs ys i d)) (f.fails d);
        before = λ k d ge lt. ⊎_elim
            (λ (here : k < length xs). subst P (sym (get_or_append_left xs ys d k here)) (All-get_or P xs k d here all))
            (λ (past : length xs ≤ k).
            let at : length xs + (k - length xs) ≡ k = omega (arith, past) in
            subst (λ (n : ℕ). P (get_or (xs ++ ys) n d)) at (subst P (sym (get_or-append-add xs ys (k - length xs) d)) (f.before (k - length xs) d (omega arith) (omega (arith, lt, past)))))
            (cases_lt k (length xs));
      }

  pub first_one : (xs : List X) (d : X) (i j : ℕ) → FailsFirst P xs i → FailsFirst P xs j → i ≡ j
  first_one xs d i j f g =
      ⊎_elim
      (λ (lt : i < j). absurd (f.fails d (g.before i d (omega arith) lt)))
      (λ (le : j ≤ i). ⊎_elim (λ (lt : j < i). absurd (g.fails d (f.before j d (omega arith) lt))) (λ (ge : i ≤ j). omega (arith, le, ge)) (cases_lt j i))
      (cases_lt i j)

  pub first_not_all : (xs : List X) (d : X) (i : ℕ) → FailsFirst P xs i → All P xs → ⊥
  first_not_all xs d i f all = f.fails d (All-get_or P xs i d f.within all)

  module _ {Y : Type 0} (f : Y → X) where
    pub map_all : (ys : List Y) → All P (map f ys) → All (λ y. P (f y)) ys
    map_all ys all = λ k d lt. subst P (get_or-map f ys k d (f d) lt) (all k (f d) (rw (length-map ys f) lt))

    pub first_map : (ys : List Y) (i : ℕ) → FailsFirst (λ y. P (f y)) ys i → FailsFirst P (map f ys) i
    first_map [] i g = absurd (omega (arith, g.within))
    first_map (y ∷ ys) i g =
        record {
          within = omega (arith, g.within, length-map (y ∷ ys) f);
          fails = λ d. subst (λ (x : X). ¬ P x) (sym (get_or-map f (y ∷ ys) i y d g.within)) (g.fails y);
          before = λ k d ge lt. subst P (sym (get_or-map f (y ∷ ys) k y d (omega (arith, lt, g.within)))) (g.before k y ge lt);
        }

  module _ {Y : Type 0} (g : Y → List X) where
    pub all_flat : (ys : List Y) → All (λ y. All P (g y)) ys → All P (flat_map g ys)
    all_flat [] all = All-nil P
    all_flat (y ∷ ys) all = All-append P (g y) (flat_map g ys) (all 0 y (omega arith)) (all_flat ys (λ k d lt. all (suc k) d (omega (arith, lt))))

    pub flat_all : (ys : List Y) → All P (flat_map g ys) → All (λ y. All P (g y)) ys
    flat_all [] all = All-nil (λ y. All P (g y))
    flat_all (y ∷ ys) all = All-cons (λ z. All P (g z)) y ys (all_left (g y) (flat_map g ys) all) (flat_all ys (all_right (g y) (flat_map g ys) all))

    -- the first place of a list at which it fails is the first of all, where it holds of all lists before that
    pub first_flat : (ys : List Y) (i j : ℕ) (c : Y) (d : X) → i < length ys → AllWithin (λ y. All P (g y)) ys 0 i → FailsFirst P (g (get_or ys i c)) j
        → (n : ℕ) × FailsFirst P (flat_map g ys) n × (get_or (flat_map g ys) n d ≡ get_or (g (get_or ys i c)) j d)
    first_flat [] i j c d lt before f = absurd (omega (arith, lt))
    first_flat (y ∷ ys) zero j c d lt before f =
        (j, first_left (g y) (flat_map g ys) j f, get_or_append_left (g y) (flat_map g ys) d j f.within)
    first_flat (y ∷ ys) (suc i) j c d lt before f =
        let r = first_flat ys i j c d (omega (arith, lt)) (λ k e ge below. before (suc k) e (omega arith) (omega (arith, below))) f in (
          length (g y) + r.0,
          first_right (g y) (flat_map g ys) r.0 (before 0 y (omega arith) (omega arith)) r.1,
          get_or-append-add (g y) (flat_map g ys) r.0 d ∙ r.2,
        )

-- what holds of the numbers from a to below a + n
pub all_range : (P : ℕ → Type 0) (a n : ℕ) → ((i : ℕ) → a ≤ i → i < a + n → P i) → All P (range_with_len a n)
all_range P a n each =
    All-from_get_or P (range_with_len a n) 0 (λ i lt.
    let below : i < n = omega (arith, lt, length-range_with_len a n) in
    subst P (sym (get_or-range_with_len a n i 0 below)) (each (a + i) (omega arith) (omega (arith, below))))

pub range_all : (P : ℕ → Type 0) (a n : ℕ) → All P (range_with_len a n) → (i : ℕ) → a ≤ i → i < a + n → P i
range_all P a n all i ge lt =
    let below : i - a < n = omega (arith, ge, lt) in
    let at : a + (i - a) ≡ i = omega (arith, ge) in
    subst P (get_or-range_with_len a n (i - a) 0 below ∙ at) (all (i - a) 0 (omega (arith, below, length-range_with_len a n)))
