-- What passes a test stays among what passes, and the first of it.
use Rattle.std.proofs.Common.{◌≡◌, ℕ, zero, suc, ◌<◌, ⊎_elim, Bool, true, false, List, [], ◌∷◌, length, get_or, take, Contains, refl, sym, ap, ◌∙◌, subst, arith}
use Rattle.std.specs.List.{filter}
use Rattle.std.proofs.lemmas.Bool.{cases_Bool, cond-true, cond-false}
use Rattle.std.proofs.lemmas.List.Elements.{All-contains_itself, All-get_or, All-filter, filter_passes}

pub contains_tail : (y x : ℕ) (xs : List ℕ) → Contains xs x → Contains (y ∷ xs) x
contains_tail y x xs at = (suc at.0, let l = at.1 in omega (arith, l), at.2)

pub none_pass : {X : Type 0} (test : X → Bool) (xs : List X) → ((x : X) → test x ≡ false) → filter test xs ≡ []
none_pass test [] none = refl
none_pass test (x ∷ xs) none = cond-false (test x) (x ∷ filter test xs) (filter test xs) (none x) ∙ none_pass test xs none

module _ (test : ℕ → Bool) (x : ℕ) (t : test x ≡ true) where
  stays_at : (xs : List ℕ) (k : ℕ) → k < length xs → get_or xs k x ≡ x → Contains (filter test xs) x
  stays_at [] k lt e = absurd (omega (arith, lt))
  stays_at (y ∷ xs) zero lt e =
      subst (λ (l : List ℕ). Contains l x) (sym (cond-true (test y) (y ∷ filter test xs) (filter test xs) (ap test e ∙ t))) (0, omega arith, e)
  stays_at (y ∷ xs) (suc k) lt e =
      let more = stays_at xs k (omega (arith, lt)) e in
      ⊎_elim
      (λ (t : test y ≡ true). subst (λ (l : List ℕ). Contains l x) (sym (cond-true (test y) (y ∷ filter test xs) (filter test xs) t)) (contains_tail y x (filter test xs) more))
      (λ (f : test y ≡ false). subst (λ (l : List ℕ). Contains l x) (sym (cond-false (test y) (y ∷ filter test xs) (filter test xs) f)) more)
      (cases_Bool (test y))

  pub stays : (xs : List ℕ) → Contains xs x → Contains (filter test xs) x
  stays xs at = stays_at xs at.0 at.1 at.2

-- the first of a list that isn't empty
first_there : (xs : List ℕ) → 0 < length xs → Contains (take 1 xs) (get_or xs 0 0)
first_there [] lt = absurd (omega (arith, lt))
first_there (x ∷ xs) lt = (0, omega arith, refl)

-- where one passes, the first that passes is one, passes, and was there
pub first_passes : (test : ℕ → Bool) (xs : List ℕ) (x : ℕ) → Contains xs x → test x ≡ true → (y : ℕ) × Contains xs y × Contains (take 1 (filter test xs)) y × (test y ≡ true)
first_passes test xs x at t =
    let there = stays test x t xs at in
    let passed : List ℕ = filter test xs in
    let some : 0 < length passed = let l = there.1 in omega (arith, l) in (
      get_or passed 0 0,
      All-get_or (Contains xs) passed 0 0 some (All-filter test (Contains xs) xs (All-contains_itself xs)),
      first_there passed some,
      All-get_or (λ (y : ℕ). test y ≡ true) passed 0 0 some (filter_passes test xs),
    )
