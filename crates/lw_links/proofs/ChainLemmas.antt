-- Chains of cells: what joining them, giving them to an owner and following them comes to.
use Rattle.std.proofs.Common.{◌≡◌, ℕ, ◌≤◌, ◌⊎◌, Bool, true, false, cond, List, [], ◌∷◌, ◌++◌, length, Some, None, Option, is_none, refl, sym, ◌∙◌, ap, subst, inl, inr, arith, zero, suc}
use Rattle.std.specs.Option.{option_or}
use Rattle.std.proofs.lemmas.Bool.{cases_eq, eq-eqb, ne_eqb, both_ways, cond-true, cond-false, false_from_ne_true}
use Rattle.std.proofs.lemmas.List.{append-nil}
use Rattle.lw_links.specs.Owners.{has, first_in, behind, Spells}
use Rattle.lw_links.specs.Chains.{StandsOnce, first_or, last_or, ends_of, IsChain, walk, is_cell, joined, ends_without}
use Rattle.lw_links.specs.declared.links.Place.{Place}
use Rattle.lw_links.proofs.CellLemmas.{has_here, has_behind, has_cases, lacks_first, lacks_rest, apart, StandApart}

pub first_or-append : (xs ys : List ℕ) (a : Option ℕ) → first_or (xs ++ ys) a ≡ first_or xs (first_or ys a)
first_or-append [] ys a = refl
first_or-append (x ∷ xs) ys a = refl

pub last_or-append : (xs ys : List ℕ) (b : Option ℕ) → last_or (xs ++ ys) b ≡ last_or ys (last_or xs b)
last_or-append [] ys b = refl
last_or-append (x ∷ xs) ys b = last_or-append xs ys (Some x)

pub first_in-first_or : (xs : List ℕ) → first_in xs ≡ first_or xs None
first_in-first_or [] = refl
first_in-first_or (x ∷ xs) = refl

-- a cell that the list lacks is neither its first nor its last
pub first_elsewhere : (c : ℕ) (xs : List ℕ) (a : Option ℕ) → has c xs ≡ false → is_cell a c ≡ false → is_cell (first_or xs a) c ≡ false
first_elsewhere c [] a h k = k
first_elsewhere c (x ∷ xs) a h k = ne_eqb c x (lacks_first c x xs h)

pub last_elsewhere : (c : ℕ) (xs : List ℕ) (b : Option ℕ) → has c xs ≡ false → is_cell b c ≡ false → is_cell (last_or xs b) c ≡ false
last_elsewhere c [] b h k = k
last_elsewhere c (x ∷ xs) b h k = last_elsewhere c xs (Some x) (lacks_rest c x xs h) (ne_eqb c x (lacks_first c x xs h))

-- where the neighbours that are joined are others, a place stays
pub joined_elsewhere : (a b : Option ℕ) (c : ℕ) (p : Place) → is_cell a c ≡ false → is_cell b c ≡ false → joined a b c p ≡ p
joined_elsewhere a b c p h k =
    ap (λ (t : Bool). record { owner = p.owner; previous = cond t a p.previous; next = cond (is_cell a c) b p.next }) k
    ∙ ap (λ (t : Bool). record { owner = p.owner; previous = p.previous; next = cond t b p.next }) h

-- the first of two lists' cells, and the last
pub option_or-first : (xs : List ℕ) (a : Option ℕ) → option_or (first_or xs None) a ≡ first_or xs a
option_or-first [] a = refl
option_or-first (x ∷ xs) a = refl

option_or-later : (x : ℕ) (xs : List ℕ) (b : Option ℕ) → option_or (last_or xs (Some x)) b ≡ last_or xs (Some x)
option_or-later x [] b = refl
option_or-later x (y ∷ ys) b = option_or-later y ys b

pub option_or-last : (xs : List ℕ) (b : Option ℕ) → option_or (last_or xs None) b ≡ last_or xs b
option_or-last [] b = refl
option_or-last (x ∷ xs) b = option_or-later x xs b

is_none-later : (x : ℕ) (xs : List ℕ) → is_none (last_or xs (Some x)) ≡ false
is_none-later x [] = refl
is_none-later x (y ∷ ys) = is_none-later y ys

first_without : (c : ℕ) (xs ys : List ℕ) → cond (is_none (last_or xs None)) (first_or ys None) (first_or (xs ++ c ∷ ys) None) ≡ first_or (xs ++ ys) None
first_without c [] ys = refl
first_without c (x ∷ xs) ys = cond-false _ _ _ (is_none-later x xs)

last_without : (c : ℕ) (xs ys : List ℕ) → cond (is_none (first_or ys None)) (last_or xs None) (last_or (xs ++ c ∷ ys) None) ≡ last_or (xs ++ ys) None
last_without c xs [] = ap (λ zs. last_or zs None) (sym (append-nil xs))
last_without c xs (y ∷ ys) = last_or-append xs (c ∷ y ∷ ys) None ∙ sym (last_or-append xs (y ∷ ys) None)

-- the ends of a list once a cell between two parts is taken out
pub ends_of-without : (o : Option ℕ) (c : ℕ) (xs ys : List ℕ)
    → ends_without (ends_of (xs ++ c ∷ ys)) (record { owner = o; previous = last_or xs None; next = first_or ys None }) ≡ ends_of (xs ++ ys)
ends_of-without o c xs ys =
    ap (λ (v : Option ℕ). record { first = v; last = cond (is_none (first_or ys None)) (last_or xs None) (last_or (xs ++ c ∷ ys) None) }) (first_without c xs ys)
    ∙ ap (λ (v : Option ℕ). record { first = first_or (xs ++ ys) None; last = v }) (last_without c xs ys)

module _ (f : ℕ → Place) where
  pub chain_append : (o : ℕ) (b a : Option ℕ) (xs ys : List ℕ) → IsChain f o b xs (first_or ys a) → IsChain f o (last_or xs b) ys a → IsChain f o b (xs ++ ys) a
  chain_append o b a [] ys h k = k
  chain_append o b a (x ∷ xs) ys h k = (rw (first_or-append xs ys a) h.0, chain_append o (Some x) a xs ys h.1 k)

  pub chain_split : (o : ℕ) (b a : Option ℕ) (xs ys : List ℕ) → IsChain f o b (xs ++ ys) a → IsChain f o b xs (first_or ys a) × IsChain f o (last_or xs b) ys a
  chain_split o b a [] ys h = (tt, h)
  chain_split o b a (x ∷ xs) ys h =
      let k = chain_split o (Some x) a xs ys h.1 in ((rw (first_or-append xs ys a) at h.0, k.0), k.1)

  pub chain_owner : (o : ℕ) (b a : Option ℕ) (xs : List ℕ) (c : ℕ) → IsChain f o b xs a → has c xs ≡ true → (f c).owner ≡ Some o
  chain_owner o b a [] c h k = absurd (both_ways false refl k)
  chain_owner o b a (x ∷ xs) c h k =
      elim (has_cases c x xs k) [
        | inl e ↦ ap (λ v. (f v).owner) e ∙ ap (λ (p : Place). p.owner) h.0
        | inr e ↦ chain_owner o (Some x) a xs c h.1 e
      ]

  -- what a cell's place says stands behind it
  pub chain_next : (o : ℕ) (b : Option ℕ) (xs : List ℕ) (c : ℕ) → IsChain f o b xs None → has c xs ≡ true → (f c).next ≡ behind c xs
  chain_next o b [] c h k = absurd (both_ways false refl k)
  chain_next o b (x ∷ xs) c h k =
      elim (cases_eq c x) [
        | inl e ↦ ap (λ v. (f v).next) e ∙ (ap (λ (p : Place). p.next) h.0 ∙ (sym (first_in-first_or xs) ∙ sym (cond-true _ _ _ (eq-eqb c x e))))
        | inr n ↦ elim (has_cases c x xs k) [
          | inl e ↦ absurd (n e)
          | inr e ↦ chain_next o (Some x) xs c h.1 e ∙ sym (cond-false _ _ _ (ne_eqb c x n))
        ]
      ]

  pub chain_spells : (o : ℕ) (b : Option ℕ) (xs : List ℕ) → IsChain f o b xs None → Spells (λ c. (f c).next) (first_or xs None) xs
  chain_spells o b [] h = refl
  chain_spells o b (x ∷ xs) h =
      (refl, subst (λ s. Spells (λ c. (f c).next) s xs) (sym (ap (λ (p : Place). p.next) h.0)) (chain_spells o (Some x) xs h.1))

  -- the way from a start is what it spells
  pub walk_spelled : (n : ℕ) (s : Option ℕ) (xs : List ℕ) → Spells (λ c. (f c).next) s xs → length xs ≤ n → walk f n s ≡ xs
  walk_spelled zero s [] h l = refl
  walk_spelled zero s (x ∷ xs) h l = absurd (omega arith)
  walk_spelled (suc n) s [] h l = ap (λ v. walk f (suc n) v) h
  walk_spelled (suc n) s (x ∷ xs) h l =
      ap (λ v. walk f (suc n) v) h.0 ∙ ap (λ v. x ∷ v) (walk_spelled n (f x).next xs h.1 (omega arith))

module _ (f g : ℕ → Place) where
  -- places of other cells do not matter
  pub chain_frame : (o : ℕ) (b a : Option ℕ) (xs : List ℕ) → IsChain f o b xs a → ((c : ℕ) → has c xs ≡ true → g c ≡ f c) → IsChain g o b xs a
  chain_frame o b a [] h s = tt
  chain_frame o b a (x ∷ xs) h s =
      (s x (has_here x xs) ∙ h.0, chain_frame o (Some x) a xs h.1 (λ c e. s c (has_behind c x xs e)))

  -- what comes after the chain is another cell
  chain_after : (o : ℕ) (b a next : Option ℕ) (xs : List ℕ) → IsChain f o b xs a → StandsOnce xs
      → ((c : ℕ) → has c xs ≡ true → g c ≡ record { owner = (f c).owner; previous = (f c).previous; next = cond (is_cell (last_or xs b) c) next (f c).next })
      → IsChain g o b xs next
  chain_after o b a next [] h k s = tt
  chain_after o b a next (x ∷ []) h k s = (
    s x (has_here x []) ∙ (ap (λ (t : Bool). record { owner = (f x).owner; previous = (f x).previous; next = cond t next (f x).next }) (eq-eqb x x refl)
        ∙ ap (λ (p : Place). record { owner = p.owner; previous = p.previous; next = next }) h.0),
    tt,
  )
  chain_after o b a next (x ∷ y ∷ zs) h k s =
      let other : is_cell (last_or zs (Some y)) x ≡ false = last_elsewhere x zs (Some y) (lacks_rest x y zs k.0) (ne_eqb x y (lacks_first x y zs k.0)) in (
        s x (has_here x (y ∷ zs)) ∙ (ap (λ (t : Bool). record { owner = (f x).owner; previous = (f x).previous; next = cond t next (f x).next }) other ∙ h.0),
        chain_after o (Some x) a next (y ∷ zs) h.1 k.1 (λ c e. s c (has_behind c x (y ∷ zs) e)),
      )

  -- what comes before the chain is another cell
  chain_before : (o : ℕ) (b a previous : Option ℕ) (xs : List ℕ) → IsChain f o b xs a → StandsOnce xs
      → ((c : ℕ) → has c xs ≡ true → g c ≡ record { owner = (f c).owner; previous = cond (is_cell (first_or xs None) c) previous (f c).previous; next = (f c).next })
      → IsChain g o previous xs a
  chain_before o b a previous [] h k s = tt
  chain_before o b a previous (x ∷ xs) h k s = (
    s x (has_here x xs) ∙ (ap (λ (t : Bool). record { owner = (f x).owner; previous = cond t previous (f x).previous; next = (f x).next }) (eq-eqb x x refl)
        ∙ ap (λ (p : Place). record { owner = p.owner; previous = previous; next = p.next }) h.0),
    chain_frame o (Some x) a xs h.1
        (λ c e. s c (has_behind c x xs e) ∙ ap (λ (t : Bool). record { owner = (f c).owner; previous = cond t previous (f c).previous; next = (f c).next }) (ne_eqb c x (apart c x xs e k.0))),
  )

  -- two chains whose ends are joined are one
  pub chain_joined : (o : ℕ) (b a : Option ℕ) (xs ys : List ℕ) → IsChain f o None xs a → IsChain f o b ys None → StandApart xs ys
      → ((c : ℕ) → (has c xs ≡ true) ⊎ (has c ys ≡ true) → g c ≡ joined (last_or xs None) (first_or ys None) c (f c)) → IsChain g o None (xs ++ ys) None
  chain_joined o b a xs ys h k s j =
      chain_append g o None None xs ys
      (chain_after o None a (first_or ys None) xs h s.front
      (λ c e. j c (inl e) ∙ ap (λ (t : Bool). record { owner = (f c).owner; previous = cond t (last_or xs None) (f c).previous; next = cond (is_cell (last_or xs None) c) (first_or ys None) (f c).next })
      (first_elsewhere c ys None (s.apart c e) refl)))
      (chain_before o b None (last_or xs None) ys k s.back
      (λ c e. j c (inr e) ∙ ap (λ (t : Bool). record { owner = (f c).owner; previous = cond (is_cell (first_or ys None) c) (last_or xs None) (f c).previous; next = cond t (first_or ys None) (f c).next })
      (last_elsewhere c xs None (false_from_ne_true (has c xs) (λ t. both_ways _ (s.apart c t) e)) refl)))

  -- a chain that is given to another owner
  pub chain_given : (o to : ℕ) (b a : Option ℕ) (xs : List ℕ) → IsChain f o b xs a
      → ((c : ℕ) → has c xs ≡ true → g c ≡ record { owner = Some to; previous = (f c).previous; next = (f c).next }) → IsChain g to b xs a
  chain_given o to b a [] h s = tt
  chain_given o to b a (x ∷ xs) h s = (
    s x (has_here x xs) ∙ ap (λ (p : Place). record { owner = Some to; previous = p.previous; next = p.next }) h.0,
    chain_given o to (Some x) a xs h.1 (λ c e. s c (has_behind c x xs e)),
  )
