-- The places at the table as a list: one is changed, or one is added.
use Rattle.std.proofs.Common.{◌≡◌, ◌≢◌, ◌⊎◌, ℕ, zero, suc, ◌+◌, ◌<◌, List, [], ◌∷◌, ◌++◌, length, Bool, true, false, refl, sym, ap, ◌∙◌, inl, inr, ⊎_elim, arith, cond, set, eqb}
use Rattle.std.specs.Prelude.{count_by}
use Rattle.std.specs.Cmp.{unsigned_Decides}
use Rattle.std.proofs.lemmas.List.Sums.{sum_by-cons}
use mathlib.Core.Option.{some, some-injective, some-ne-none}
use lib.ListN.{get_elem?}

abbrev pub bit : Bool → ℕ
bit b = cond b 1 0

pub same_or_not : (i j : ℕ) → (i ≡ j) ⊎ (i ≢ j)
same_or_not i j =
    elim (eqb i j) as (λ b. eqb i j ≡ b → (i ≡ j) ⊎ (i ≢ j)) [
      | true ↦ λ e. inl ((unsigned_Decides i j).0 e)
      | false ↦ λ e. inr (λ p. let t : eqb i j ≡ true = (unsigned_Decides i j).1 p in cc)
    ] refl

module _ {A : Type 0} where
  pub there : (l : List A) (i : ℕ) (a : A) → get_elem? l i ≡ some a → i < length l
  there [] i a e = absurd (some-ne-none a (sym e))
  there (x ∷ l) zero a e = omega arith
  there (x ∷ l) (suc i) a e = omega (arith, there l i a e)

  pub one_at : (l : List A) (i : ℕ) (a b : A) → get_elem? l i ≡ some a → get_elem? l i ≡ some b → a ≡ b
  one_at l i a b p q = some-injective a b (sym p ∙ q)

  pub count_by-cons : (p : A → Bool) (x : A) (l : List A) → count_by p (x ∷ l) ≡ bit (p x) + count_by p l
  count_by-cons p x l = sum_by-cons (λ y. bit (p y)) x l

  pub count_by-set : (p : A → Bool) (l : List A) (i : ℕ) (a b : A) → get_elem? l i ≡ some a → count_by p (set l i b) + bit (p a) ≡ count_by p l + bit (p b)
  count_by-set p [] i a b e = absurd (some-ne-none a (sym e))
  count_by-set p (x ∷ l) zero a b e = let x_is : bit (p x) ≡ bit (p a) = ap (λ (y : A). bit (p y)) (some-injective x a e) in
      rw (count_by-cons p b l, count_by-cons p x l) (omega (arith, x_is))
  count_by-set p (x ∷ l) (suc i) a b e = rw (count_by-cons p x (set l i b), count_by-cons p x l) (omega (arith, count_by-set p l i a b e))

  pub count_by-snoc : (p : A → Bool) (l : List A) (a : A) → count_by p (l ++ a ∷ []) ≡ count_by p l + bit (p a)
  count_by-snoc p [] a = omega (arith, count_by-cons p a [])
  count_by-snoc p (x ∷ l) a = rw (count_by-cons p x (l ++ a ∷ []), count_by-cons p x l) (omega (arith, count_by-snoc p l a))

  -- what stands in a longer list stood there before, or is the one that was added
  pub at_snoc_index : (l : List A) (a b : A) (j : ℕ) → get_elem? (l ++ a ∷ []) j ≡ some b → (get_elem? l j ≡ some b) ⊎ ((j ≡ length l) × (a ≡ b))
  at_snoc_index [] a b zero e = inr (refl, some-injective a b e)
  at_snoc_index [] a b (suc j) e = absurd (some-ne-none b (sym e))
  at_snoc_index (x ∷ xs) a b zero e = inl e
  at_snoc_index (x ∷ xs) a b (suc j) e = ⊎_elim (λ (h : get_elem? xs j ≡ some b). inl h) (λ (h : (j ≡ length xs) × (a ≡ b)). inr (ap suc h.0, h.1)) (at_snoc_index xs a b j e)
