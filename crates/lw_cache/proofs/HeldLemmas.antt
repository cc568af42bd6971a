-- The claims that are left when one is left out.
use Rattle.std.proofs.Common.{◌≡◌, ◌≢◌, ℕ, zero, suc, ◌+◌, ◌<◌, ◌≤◌, ◌⊎◌, inl, inr, ⊎_elim, Bool, true, false, not, ◌==◌, cond, List, [], ◌∷◌, length, filter, refl, ap, sym, ◌∙◌, arith}
use Rattle.std.proofs.lemmas.Bool.{true≢false, false≢true, not-true, eqb-false, ne_eqb, eq-eqb, not_from_false, not_from_true, cases_eq}
use Rattle.lw_cache.specs.Caching.{Claim, without_claim}
use Rattle.lw_cache.specs.bodies.Trie.{held_at, word_of, claims_of}
use Rattle.lw_cache.specs.bodies.Filling.{without_held, IsHeld}
use Rattle.lw_cache.specs.declared.node.Node.{Node}
use Rattle.lw_cache.specs.declared.node.Held.{Held}

module _ (p : Held → Bool) where
  -- each element of a filtered list is one of the list that passes
  pub filter_in : (xs : List Held) (k : ℕ) → k < length (filter p xs) → (j : ℕ) × (j < length xs) × (held_at xs j ≡ held_at (filter p xs) k) × (p (held_at xs j) ≡ true)
  filter_in [] k lt = absurd (omega arith)
  filter_in (x ∷ xs) k lt = by (λ m less. filter_in xs m less) (p x) refl k lt
    where
      by : ((m : ℕ) → m < length (filter p xs) → (j : ℕ) × (j < length xs) × (held_at xs j ≡ held_at (filter p xs) m) × (p (held_at xs j) ≡ true))
          → (b : Bool) → p x ≡ b → (m : ℕ) → m < length (cond b (x ∷ filter p xs) (filter p xs))
          → (j : ℕ) × (j < length (x ∷ xs)) × (held_at (x ∷ xs) j ≡ held_at (cond b (x ∷ filter p xs) (filter p xs)) m) × (p (held_at (x ∷ xs) j) ≡ true)
      by rest true e zero less = (zero, omega arith, refl, e)
      by rest true e (suc m) less = let r = rest m (omega arith) in (suc r.0, omega (arith, r.1), r.2, r.3)
      by rest false e m less = let r = rest m less in (suc r.0, omega (arith, r.1), r.2, r.3)

  -- and each that passes is one of the filtered list
  pub filter_out : (xs : List Held) (j : ℕ) → j < length xs → p (held_at xs j) ≡ true → (k : ℕ) × (k < length (filter p xs)) × (held_at (filter p xs) k ≡ held_at xs j)
  filter_out [] j lt pass = absurd (omega arith)
  filter_out (x ∷ xs) zero lt pass = by (p x) pass
    where
      by : (b : Bool) → b ≡ true → (k : ℕ) × (k < length (cond b (x ∷ filter p xs) (filter p xs))) × (held_at (cond b (x ∷ filter p xs) (filter p xs)) k ≡ x)
      by true e = (zero, omega arith, refl)
      by false e = absurd (false≢true e)
  filter_out (x ∷ xs) (suc j) lt pass = by (p x) (filter_out xs j (omega arith) pass)
    where
      by : (b : Bool) → (k : ℕ) × (k < length (filter p xs)) × (held_at (filter p xs) k ≡ held_at xs j) → (k : ℕ) × (k < length (cond b (x ∷ filter p xs) (filter p xs))) × (held_at (cond b (x ∷ filter p xs) (filter p xs)) k ≡ held_at xs j)
      by true r = (suc r.0, omega (arith, r.1), r.2)
      by false r = r

  -- numbers that differ go on differing
  pub filter_once : (xs : List Held) → ((k l : ℕ) → k < l → l < length xs → (held_at xs k).number ≢ (held_at xs l).number) → (k l : ℕ) → k < l → l < length (filter p xs) → (held_at (filter p xs) k).number ≢ (held_at (filter p xs) l).number
  filter_once [] once k l before lt = absurd (omega arith)
  filter_once (x ∷ xs) once k l before lt = by (λ i j less within. filter_once xs (λ a b lower inside. once (suc a) (suc b) (omega arith) (omega arith)) i j less within) (p x) k l before lt
    where
      by : ((i j : ℕ) → i < j → j < length (filter p xs) → (held_at (filter p xs) i).number ≢ (held_at (filter p xs) j).number)
          → (b : Bool) (i j : ℕ) → i < j → j < length (cond b (x ∷ filter p xs) (filter p xs)) → (held_at (cond b (x ∷ filter p xs) (filter p xs)) i).number ≢ (held_at (cond b (x ∷ filter p xs) (filter p xs)) j).number
      by rest true i zero less within = absurd (omega arith)
      by rest true zero (suc j) less within = λ e. let r = filter_in xs j (omega arith) in once zero (suc r.0) (omega arith) (omega (arith, r.1)) (e ∙ ap (λ (h : Held). h.number) (sym r.2))
      by rest true (suc i) (suc j) less within = rest i j (omega arith) (omega arith)
      by rest false i j less within = rest i j less within

  at_most : (xs : List Held) → length (filter p xs) ≤ length xs
  at_most [] = omega arith
  at_most (x ∷ xs) = by (p x) (at_most xs)
    where
      by : (b : Bool) → length (filter p xs) ≤ length xs → length (cond b (x ∷ filter p xs) (filter p xs)) ≤ suc (length xs)
      by true le = omega arith
      by false le = omega arith

  -- one that doesn't pass is left out
  pub filter_less : (xs : List Held) (j : ℕ) → j < length xs → p (held_at xs j) ≡ false → length (filter p xs) < length xs
  filter_less [] j lt fails = absurd (omega arith)
  filter_less (x ∷ xs) zero lt fails = by (p x) fails (at_most xs)
    where
      by : (b : Bool) → b ≡ false → length (filter p xs) ≤ length xs → length (cond b (x ∷ filter p xs) (filter p xs)) < suc (length xs)
      by true e le = absurd (true≢false e)
      by false e le = omega arith
  filter_less (x ∷ xs) (suc j) lt fails = by (p x) (filter_less xs j (omega arith) fails)
    where
      by : (b : Bool) → length (filter p xs) < length xs → length (cond b (x ∷ filter p xs) (filter p xs)) < suc (length xs)
      by true less = omega arith
      by false less = omega arith

-- leaving a claim out, of what contracts see
pub claims_without : (at : ℕ → Node) (number : ℕ) (held : List Held) → claims_of at (without_held number held) ≡ without_claim number (claims_of at held)
claims_without at number [] = refl
claims_without at number (h ∷ held) = by (not (h.number == number)) (claims_without at number held)
  where
    by : (b : Bool) → claims_of at (without_held number held) ≡ without_claim number (claims_of at held)
        → claims_of at (cond b (h ∷ without_held number held) (without_held number held)) ≡ cond b (record { number = h.number; word = word_of at h.end } ∷ without_claim number (claims_of at held)) (without_claim number (claims_of at held))
    by true rest = ap (λ (l : List Claim). record { number = h.number; word = word_of at h.end } ∷ l) rest
    by false rest = rest

pub other_number : (number : ℕ) (h : Held) → not (h.number == number) ≡ true → h.number ≢ number
other_number number h pass = eqb-false h.number number (not-true (h.number == number) pass)

pub passes_number : (number : ℕ) (h : Held) → h.number ≢ number → not (h.number == number) ≡ true
passes_number number h other = not_from_false (h.number == number) (ne_eqb h.number number other)

-- fewer are left, where one had the number
pub fewer_held : (number : ℕ) (held : List Held) → IsHeld held number → length (without_held number held) + 1 ≤ length held
fewer_held number held is =
    let less : length (without_held number held) < length held = filter_less (λ (h : Held). not (h.number == number)) held is.0 is.1 (not_from_true ((held_at held is.0).number == number) (eq-eqb (held_at held is.0).number number is.2)) in
    omega arith

-- some claim has the number, or none has
pub look_held : (number : ℕ) (held : List Held) → IsHeld held number ⊎ ((k : ℕ) → k < length held → (held_at held k).number ≢ number)
look_held number [] = inr (λ k lt. absurd (omega arith))
look_held number (h ∷ held) =
    ⊎_elim
    (λ (same : h.number ≡ number). inl (0, omega arith, same))
    (λ (other : h.number ≡ number → ⊥). ⊎_elim
    (λ (r : IsHeld held number). inl (suc r.0, omega (arith, r.1), r.2))
    (λ (no_one : (k : ℕ) → k < length held → (held_at held k).number ≢ number). inr (both other no_one))
    (look_held number held))
    (cases_eq h.number number)
  where
    both : (h.number ≢ number) → ((k : ℕ) → k < length held → (held_at held k).number ≢ number) → (k : ℕ) → k < length (h ∷ held) → (held_at (h ∷ held) k).number ≢ number
    both other no_one zero lt = other
    both other no_one (suc k) lt = no_one k (omega arith)
