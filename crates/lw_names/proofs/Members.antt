-- Members of lists, by recursion.
use Rattle.std.proofs.Common.{◌≡◌, ◌⊎◌, ◌≢◌, inl, inr, ⊎_elim, ℕ, zero, suc, ◌<◌, List, [], ◌∷◌, ◌++◌, length, map, filter, get_or, Contains, Bool, true, false, not, ◌==◌, cond, refl, ap, sym, ◌∙◌, arith, eq-eqb, ne_eqb}
use Rattle.std.specs.Cmp.{unsigned_Decides}
use Rattle.std.proofs.lemmas.Bool.{true≢false, false≢true}

abbrev pub In : {X : Type 0} → X → List X → Type 0
In x [] = ⊥
In x (y ∷ ys) = (x ≡ y) ⊎ In x ys

module _ {X : Type 0} where
  pub in_contains : (x : X) (xs : List X) → In x xs → Contains xs x
  in_contains x [] h = absurd h
  in_contains x (y ∷ ys) h =
      ⊎_elim
      (λ (e : x ≡ y). (0, omega arith, sym e))
      (λ (i : In x ys). let r = in_contains x ys i in (suc r.0, omega (arith, r.1), r.2))
      h

  contains_at : (x : X) (xs : List X) (k : ℕ) → k < length xs → get_or xs k x ≡ x → In x xs
  contains_at x [] k lt e = absurd (omega arith)
  contains_at x (y ∷ ys) zero lt e = inl (sym e)
  contains_at x (y ∷ ys) (suc k) lt e = inr (contains_at x ys k (omega arith) e)

  pub contains_in : (x : X) (xs : List X) → Contains xs x → In x xs
  contains_in x xs c = contains_at x xs c.0 c.1 c.2

  pub in_left : (x : X) (xs ys : List X) → In x xs → In x (xs ++ ys)
  in_left x [] ys h = absurd h
  in_left x (y ∷ xs) ys h = ⊎_elim (λ (e : x ≡ y). inl e) (λ (i : In x xs). inr (in_left x xs ys i)) h

  pub in_right : (x : X) (xs ys : List X) → In x ys → In x (xs ++ ys)
  in_right x [] ys h = h
  in_right x (y ∷ xs) ys h = inr (in_right x xs ys h)

  pub in_either : (x : X) (xs ys : List X) → In x (xs ++ ys) → In x xs ⊎ In x ys
  in_either x [] ys h = inr h
  in_either x (y ∷ xs) ys h =
      ⊎_elim
      (λ (e : x ≡ y). inl (inl e))
      (λ (i : In x (xs ++ ys)). ⊎_elim (λ (l : In x xs). inl (inr l)) (λ (r : In x ys). inr r) (in_either x xs ys i))
      h

  pub in_filter : (p : X → Bool) (x : X) (xs : List X) → In x (filter p xs) → In x xs × (p x ≡ true)
  in_filter p x [] h = absurd h
  in_filter p x (y ∷ ys) h = by (λ i. in_filter p x ys i) (p y) refl h
    where
      by : (In x (filter p ys) → In x ys × (p x ≡ true)) → (b : Bool) → p y ≡ b → In x (cond b (y ∷ filter p ys) (filter p ys)) → In x (y ∷ ys) × (p x ≡ true)
      by rest true e i =
          ⊎_elim
          (λ (s : x ≡ y). (inl s, ap p s ∙ e))
          (λ (r : In x (filter p ys)). let t = rest r in (inr t.0, t.1))
          i
      by rest false e i = let t = rest i in (inr t.0, t.1)

  pub in_filter_of : (p : X → Bool) (x : X) (xs : List X) → In x xs → p x ≡ true → In x (filter p xs)
  in_filter_of p x [] h pass = absurd h
  in_filter_of p x (y ∷ ys) h pass = by (λ i. in_filter_of p x ys i pass) (p y) refl
    where
      by : (In x ys → In x (filter p ys)) → (b : Bool) → p y ≡ b → In x (cond b (y ∷ filter p ys) (filter p ys))
      by rest true e = ⊎_elim (λ (s : x ≡ y). inl s) (λ (r : In x ys). inr (rest r)) h
      by rest false e =
          ⊎_elim
          (λ (s : x ≡ y). absurd (true≢false (sym pass ∙ (ap p s ∙ e))))
          (λ (r : In x ys). rest r)
          h

pub in_map : {X Y : Type 0} (f : X → Y) (x : X) (xs : List X) → In x xs → In (f x) (map f xs)
in_map f x [] h = absurd h
in_map f x (y ∷ ys) h = ⊎_elim (λ (e : x ≡ y). inl (ap f e)) (λ (i : In x ys). inr (in_map f x ys i)) h

pub in_mapped : {X Y : Type 0} (f : X → Y) (y : Y) (xs : List X) → In y (map f xs) → (x : X) × In x xs × (f x ≡ y)
in_mapped f y [] h = absurd h
in_mapped f y (x ∷ xs) h =
    ⊎_elim
    (λ (e : y ≡ f x). (x, inl refl, sym e))
    (λ (i : In y (map f xs)). let r = in_mapped f y xs i in (r.0, inr r.1, r.2))
    h

-- numbers that differ, as tests
pub same_number : (a b : ℕ) → (a == b) ≡ true → a ≡ b
same_number a b e = (unsigned_Decides a b).0 e

pub is_same : (a b : ℕ) → a ≡ b → (a == b) ≡ true
is_same a b e = eq-eqb a b e

pub is_other : (a b : ℕ) → a ≢ b → (a == b) ≡ false
is_other a b ne = ne_eqb a b ne

pub other_number : (a b : ℕ) → (a == b) ≡ false → a ≢ b
other_number a b e same = true≢false (sym (eq-eqb a b same) ∙ e)

-- the numbers of a list but one
abbrev pub removed : ℕ → List ℕ → List ℕ
removed p xs = filter (λ x. not (x == p)) xs

abbrev pub removed_all : List ℕ → List ℕ → List ℕ
removed_all [] xs = xs
removed_all (p ∷ ps) xs = removed_all ps (removed p xs)

-- nothing is left where all are removed
pub none_left : (ps xs : List ℕ) → ((x : ℕ) → In x xs → In x ps) → removed_all ps xs ≡ []
none_left [] [] all = refl
none_left [] (x ∷ xs) all = absurd (all x (inl refl))
none_left (p ∷ ps) xs all = none_left ps (removed p xs) (λ x i.
    let t = in_filter (λ x. not (x == p)) x xs i in
    ⊎_elim
    (λ (e : x ≡ p). absurd (false≢true (sym (ap not (is_same x p e)) ∙ t.1)))
    (λ (r : In x ps). r)
    (all x t.0))
