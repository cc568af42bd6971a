-- Which owner a cell has, once lists were changed.
use Rattle.std.proofs.Common.{◌≡◌, ◌≢◌, ℕ, ◌-◌, ◌<◌, true, false, if◌then◌else◌, ◌==◌, List, [], ◌∷◌, ◌++◌, length, map, replicate, Some, None, Option, option_map, refl, sym, ◌∙◌, ap, subst, inl, inr}
use Rattle.std.proofs.lemmas.Bool.{cases_eq, cases_lt, eq-eqb, ne_eqb, both_ways, cond-true, cond-false}
use Rattle.std.proofs.lemmas.Iterator.Adapters.{option_map_id}
use Rattle.std.proofs.lemmas.List.{get_or-map, get_or_past, get_or-set_same, get_or-set_other, get_or-replicate, length-map, length-set, length-replicate}
use Rattle.std.proofs.lemmas.List.Quantifiers.{position-Some}
use Rattle.lw_links.specs.Owners.{ListsByOwner, HasEachOnce, has, without, list_of, owner_of, empty_lists, grown, pushed, unlinked, moved}
use Rattle.lw_links.proofs.CellLemmas.{has_here, has_cases, has_at, has_behind, has_left, has_right, has_either, has_without, exists_from_has, lacks_both, position-none}
use Rattle.lw_links.proofs.CallLemmas.{get_or-append_none}
use Rattle.lw_links.proofs.KeepLemmas.{owner_of-has, owner_of-none}

-- the list of a cell's owner has the cell
pub has_from_owner : (v : ListsByOwner) (o k : ℕ) → owner_of v k ≡ Some o → has k (list_of v o) ≡ true
has_from_owner v o k e = (position-Some (has k) v.lists o [] e).1

-- an owner that has a cell exists
pub owner_exists : (v : ListsByOwner) (o k : ℕ) → owner_of v k ≡ Some o → o < length v.lists
owner_exists v o k e = exists_from_has v.lists o k (has_from_owner v o k e)

-- where a cell goes from each list into another one, so does its owner
module _ (v w : ListsByOwner) (hv : HasEachOnce v) (hw : HasEachOnce w) (f : ℕ → ℕ) (k : ℕ)
    (forward : (p : ℕ) → has k (list_of v p) ≡ true → has k (list_of w (f p)) ≡ true)
    (back : (p : ℕ) → has k (list_of w p) ≡ true → (q : ℕ) × (has k (list_of v q) ≡ true)) where
  owner_then : owner_of w k ≡ option_map f (owner_of v k)
  owner_then = by (owner_of v k) refl
    where
      by : (s : Option ℕ) → owner_of v k ≡ s → owner_of w k ≡ option_map f s
      by None e = owner_of-none w hw k (λ o h.
          let b = back o h in
          let t : Some b.0 ≡ None = sym (owner_of-has v hv b.0 k b.1) ∙ e in
          cc)
      by (Some o) e = owner_of-has w hw (f o) k (forward o (has_from_owner v o k e))

-- a cell was pushed
module _ (v : ListsByOwner) (o c : ℕ) (hv : HasEachOnce v) (hw : HasEachOnce (pushed v o c)) (lt : o < length v.lists) where
  there : list_of (pushed v o c) o ≡ list_of v o ++ c ∷ []
  there = get_or-set_same v.lists o _ [] lt

  other : (p : ℕ) → p ≢ o → list_of (pushed v o c) p ≡ list_of v p
  other p ne = get_or-set_other v.lists o p _ [] ne

  stays : (k p : ℕ) → has k (list_of v p) ≡ true → has k (list_of (pushed v o c) p) ≡ true
  stays k p h = elim (cases_eq p o) [
    | inl e ↦ subst (λ q. has k (list_of (pushed v o c) q) ≡ true) (sym e) (subst (λ xs. has k xs ≡ true) (sym there)
        (has_left k (list_of v o) (c ∷ []) (subst (λ q. has k (list_of v q) ≡ true) e h)))
    | inr ne ↦ subst (λ xs. has k xs ≡ true) (sym (other p ne)) h
  ]

  was : (k p : ℕ) → k ≢ c → has k (list_of (pushed v o c) p) ≡ true → has k (list_of v p) ≡ true
  was k p n h = elim (cases_eq p o) [
    | inl e ↦ elim (has_either k (list_of v o) (c ∷ []) (subst (λ xs. has k xs ≡ true) there (subst (λ q. has k (list_of (pushed v o c) q) ≡ true) e h))) [
      | inl l ↦ subst (λ q. has k (list_of v q) ≡ true) (sym e) l
      | inr r ↦ elim (has_cases k c [] r) [ inl i ↦ absurd (n i) | inr i ↦ absurd (both_ways false refl i) ]
    ]
    | inr ne ↦ subst (λ xs. has k xs ≡ true) (other p ne) h
  ]

  pub push_owner : (k : ℕ) → owner_of (pushed v o c) k ≡ (if k == c then Some o else owner_of v k)
  push_owner k = elim (cases_eq k c) [
    | inl e ↦ subst (λ j. owner_of (pushed v o c) j ≡ (if j == c then Some o else owner_of v j)) (sym e)
        (owner_of-has (pushed v o c) hw o c (subst (λ xs. has c xs ≡ true) (sym there) (has_right c (list_of v o) (c ∷ []) (has_here c []))) ∙ sym (cond-true _ _ _ (eq-eqb c c refl)))
    | inr ne ↦ owner_then v (pushed v o c) hv hw (λ p. p) k (stays k) (λ p h. (p, was k p ne h)) ∙ (option_map_id (owner_of v k) ∙ sym (cond-false _ _ _ (ne_eqb k c ne)))
  ]

-- what is left of a list without a cell
lacks_without : (c : ℕ) (xs : List ℕ) → has c (without c xs) ≡ false
lacks_without c [] = refl
lacks_without c (x ∷ xs) = elim (cases_eq c x) [
  | inl e ↦ rw (eq-eqb c x e) (lacks_without c xs)
  | inr ne ↦ rw (ne_eqb c x ne) (lacks_both c x (without c xs) ne (lacks_without c xs))
]

had_without : (c d : ℕ) (xs : List ℕ) → has d (without c xs) ≡ true → has d xs ≡ true
had_without c d [] h = h
had_without c d (x ∷ xs) h = elim (cases_eq c x) [
  | inl e ↦ has_behind d x xs (had_without c d xs (rw (eq-eqb c x e) at h))
  | inr ne ↦ elim (has_cases d x (without c xs) (rw (ne_eqb c x ne) at h)) [
    | inl i ↦ has_at d x xs i
    | inr i ↦ has_behind d x xs (had_without c d xs i)
  ]
]

-- a cell was taken out
module _ (v : ListsByOwner) (c : ℕ) (hv : HasEachOnce v) (hw : HasEachOnce (unlinked v c)) where
  left : (p : ℕ) → list_of (unlinked v c) p ≡ without c (list_of v p)
  left p = elim (cases_lt p (length v.lists)) [
    | inl lt ↦ get_or-map (without c) v.lists p [] [] lt
    | inr le ↦ get_or_past (map (without c) v.lists) p [] (rw length-map le) ∙ ap (without c) (sym (get_or_past v.lists p [] le))
  ]

  pub unlink_owner_of : (k : ℕ) → owner_of (unlinked v c) k ≡ (if k == c then None else owner_of v k)
  unlink_owner_of k = elim (cases_eq k c) [
    | inl e ↦ subst (λ j. owner_of (unlinked v c) j ≡ (if j == c then None else owner_of v j)) (sym e)
        (owner_of-none (unlinked v c) hw c (λ o h. both_ways _ (lacks_without c (list_of v o)) (subst (λ xs. has c xs ≡ true) (left o) h)) ∙ sym (cond-true _ _ _ (eq-eqb c c refl)))
    | inr ne ↦ owner_then v (unlinked v c) hv hw (λ p. p) k
        (λ p h. subst (λ xs. has k xs ≡ true) (sym (left p)) (has_without c k (list_of v p) ne h))
        (λ p h. (p, had_without c k (list_of v p) (subst (λ xs. has k xs ≡ true) (left p) h)))
        ∙ (option_map_id (owner_of v k) ∙ sym (cond-false _ _ _ (ne_eqb k c ne)))
  ]

-- a list was moved
module _ (v : ListsByOwner) (a b : ℕ) (hv : HasEachOnce v) (hw : HasEachOnce (moved v a b)) (two : a ≢ b) (a_exists : a < length v.lists) (b_exists : b < length v.lists) where
  abbrev goes : ℕ → ℕ
  goes p = if p == a then b else p

  taken : list_of (moved v a b) b ≡ list_of v b ++ list_of v a
  taken = get_or-set_other _ a b _ [] (λ i. two (sym i)) ∙ get_or-set_same v.lists b _ [] b_exists

  given_up : list_of (moved v a b) a ≡ []
  given_up = let lt : a < length (pushed v b 0).lists = rw length-set a_exists in get_or-set_same _ a _ [] (rw length-set a_exists)

  untouched : (p : ℕ) → p ≢ a → p ≢ b → list_of (moved v a b) p ≡ list_of v p
  untouched p n m = get_or-set_other _ a p _ [] n ∙ get_or-set_other v.lists b p _ [] m

  into : (k p : ℕ) → has k (list_of v p) ≡ true → has k (list_of (moved v a b) (goes p)) ≡ true
  into k p h = elim (cases_eq p a) [
    | inl e ↦ subst (λ q. has k (list_of (moved v a b) q) ≡ true) (sym (cond-true _ _ _ (eq-eqb p a e)))
        (subst (λ xs. has k xs ≡ true) (sym taken) (has_right k (list_of v b) (list_of v a) (subst (λ q. has k (list_of v q) ≡ true) e h)))
    | inr ne ↦ subst (λ q. has k (list_of (moved v a b) q) ≡ true) (sym (cond-false _ _ _ (ne_eqb p a ne))) (elim (cases_eq p b) [
      | inl e ↦ subst (λ q. has k (list_of (moved v a b) q) ≡ true) (sym e)
          (subst (λ xs. has k xs ≡ true) (sym taken) (has_left k (list_of v b) (list_of v a) (subst (λ q. has k (list_of v q) ≡ true) e h)))
      | inr other ↦ subst (λ xs. has k xs ≡ true) (sym (untouched p ne other)) h
    ])
  ]

  out_of : (k p : ℕ) → has k (list_of (moved v a b) p) ≡ true → (q : ℕ) × (has k (list_of v q) ≡ true)
  out_of k p h = elim (cases_eq p a) [
    | inl e ↦ absurd (both_ways false refl (subst (λ xs. has k xs ≡ true) given_up (subst (λ q. has k (list_of (moved v a b) q) ≡ true) e h)))
    | inr ne ↦ elim (cases_eq p b) [
      | inl e ↦ elim (has_either k (list_of v b) (list_of v a) (subst (λ xs. has k xs ≡ true) taken (subst (λ q. has k (list_of (moved v a b) q) ≡ true) e h))) [
        | inl l ↦ (b, l)
        | inr r ↦ (a, r)
      ]
      | inr other ↦ (p, subst (λ xs. has k xs ≡ true) (untouched p ne other) h)
    ]
  ]

  pub move_owner : (k : ℕ) → owner_of (moved v a b) k ≡ option_map (λ o. if o == a then b else o) (owner_of v k)
  move_owner k = owner_then v (moved v a b) hv hw goes k (into k) (out_of k)

-- in empty lists no cell has an owner
pub empty_owner : (owners cells k : ℕ) → owner_of (empty_lists owners cells) k ≡ None
empty_owner owners cells k = position-none (has k) (replicate owners []) [] (λ o lt h. both_ways false refl (subst (λ xs. has k xs ≡ true) (get_or-replicate owners o [] [] (rw length-replicate at lt)) h))

-- more owners and more cells
module _ (v : ListsByOwner) (owners cells : ℕ) (hv : HasEachOnce v) (hw : HasEachOnce (grown v owners cells)) where
  pub grow_owner : (k : ℕ) → owner_of (grown v owners cells) k ≡ owner_of v k
  grow_owner k =
      owner_then v (grown v owners cells) hv hw (λ p. p) k
      (λ p h. subst (λ xs. has k xs ≡ true) (sym (get_or-append_none v.lists (owners - length v.lists) p [])) h)
      (λ p h. (p, subst (λ xs. has k xs ≡ true) (get_or-append_none v.lists (owners - length v.lists) p []) h))
      ∙ option_map_id (owner_of v k)
