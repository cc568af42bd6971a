-- What each call keeps of the lists, over any places, ends and lists by owner.
use Rattle.std.proofs.Common.{◌≡◌, ◌≢◌, ℕ, ◌<◌, ◌≤◌, ◌⊎◌, Bool, true, false, cond, List, [], ◌∷◌, ◌++◌, Some, None, Option, refl, sym, ◌∙◌, ap, subst, inl, inr, arith}
use Rattle.std.specs.Option.{option_or}
use Rattle.std.proofs.lemmas.Bool.{cases_eq, ne_eqb, both_ways, cases_Bool, false_from_ne_true}
use Rattle.lw_links.specs.Owners.{has, without}
use Rattle.lw_links.specs.Chains.{StandsOnce, place_in_no_list, no_ends, first_or, last_or, ends_of, IsChain, IsLinked, is_cell, joined, ends_without, given}
use Rattle.lw_links.specs.declared.links.Place.{Place}
use Rattle.lw_links.specs.declared.links.Ends.{Ends}
use Rattle.lw_links.proofs.CellLemmas.{has_here, has_at, has_cases, has_left, has_right, has_either, lacks_both, lacks_rest, lacks_left, lacks_right, has_behind, apart, StandApart, apart_from_once, once_from_apart, split_at_cell, without_none, without_middle, has_without}
use Rattle.lw_links.proofs.ChainLemmas.{chain_split, chain_owner, chain_frame, chain_joined, chain_given, first_or-append, last_or-append, first_elsewhere, last_elsewhere, joined_elsewhere, option_or-first, option_or-last, ends_of-without}

-- an owner whose list stays
pub record IsSame (f g : ℕ → Place) (d e : Ends) (xs ys : List ℕ) : Type 0 where
  pub list : ys ≡ xs
  pub ends : e ≡ d
  pub places : (c : ℕ) → has c xs ≡ true → g c ≡ f c

-- an owner whose list is made anew
pub record IsRebuilt (g : ℕ → Place) (e : Ends) (n : ℕ) (ys : List ℕ) (o : ℕ) : Type 0 where
  pub chain : IsChain g o None ys None
  pub ends : e ≡ ends_of ys
  pub once : StandsOnce ys
  pub in_range : (c : ℕ) → has c ys ≡ true → c < n

other_owner : {p o : ℕ} → Some p ≡ Some o → p ≡ o
other_owner e = cc

module _ (f g : ℕ → Place) (d e : ℕ → Ends) (n m : ℕ) (L M : ℕ → List ℕ) (k : IsLinked f d n L) where
  -- each owner's list stays or is made anew
  pub relinked : n ≤ m → ((o : ℕ) → IsSame f g (d o) (e o) (L o) (M o) ⊎ IsRebuilt g (e o) m (M o) o)
      → ((c o : ℕ) → (g c).owner ≡ Some o → has c (M o) ≡ true) → ((c : ℕ) → (g c).owner ≡ None → g c ≡ place_in_no_list) → IsLinked g e m M
  relinked le each owned free = record {
    chain = λ o. elim (each o) [
      | inl s ↦ subst (λ xs. IsChain g o None xs None) (sym s.list) (chain_frame f g o None None (L o) (k.chain o) s.places)
      | inr r ↦ r.chain
    ];
    ends_are = λ o. elim (each o) [ inl s ↦ s.ends ∙ (k.ends_are o ∙ ap ends_of (sym s.list)) | inr r ↦ r.ends ];
    once = λ o. elim (each o) [ inl s ↦ subst StandsOnce (sym s.list) (k.once o) | inr r ↦ r.once ];
    in_range = λ o c. elim (each o) [
      | inl s ↦ λ h. let lt : c < n = k.in_range o c (subst (λ xs. has c xs ≡ true) s.list h) in omega arith
      | inr r ↦ r.in_range c
    ];
    owned = owned;
    free = free;
  }

  -- the owner of a cell in a list
  pub owner_in : (o c : ℕ) → has c (L o) ≡ true → (f c).owner ≡ Some o
  owner_in o c h = chain_owner f o None None (L o) c (k.chain o) h

  pub one_owner : (o p c : ℕ) → has c (L o) ≡ true → has c (L p) ≡ true → o ≡ p
  one_owner o p c h j = other_owner (sym (owner_in o c h) ∙ owner_in p c j)

  lacks_other : (o p c : ℕ) → p ≢ o → has c (L p) ≡ true → has c (L o) ≡ false
  lacks_other o p c ne h = false_from_ne_true (has c (L o)) (λ t. ne (one_owner p o c h t))

  lacks_unowned : (o c : ℕ) → (f c).owner ≡ None → has c (L o) ≡ false
  lacks_unowned o c none = false_from_ne_true (has c (L o)) (λ t. let s : Some o ≡ None = sym (owner_in o c t) ∙ none in cc)

  first_of_other : (o c : ℕ) → has c (L o) ≡ false → is_cell (d o).first c ≡ false
  first_of_other o c h =
      subst (λ (v : Ends). is_cell v.first c ≡ false) (sym (k.ends_are o)) (first_elsewhere c (L o) None h refl)

  last_of_other : (o c : ℕ) → has c (L o) ≡ false → is_cell (d o).last c ≡ false
  last_of_other o c h =
      subst (λ (v : Ends). is_cell v.last c ≡ false) (sym (k.ends_are o)) (last_elsewhere c (L o) None h refl)

  -- a place that no joining reaches
  joined_other : (a b : Option ℕ) (c : ℕ) (h : ℕ → Place) → g c ≡ joined a b c (h c) → h c ≡ f c → is_cell a c ≡ false → is_cell b c ≡ false → g c ≡ f c
  joined_other a b c h at same p q = at ∙ (joined_elsewhere a b c (h c) p q ∙ same)

-- a cell that is in no list goes last in the list of o: h has the places with the new owner, g those joined
module _ (f h g : ℕ → Place) (d e : ℕ → Ends) (n : ℕ) (L M : ℕ → List ℕ) (k : IsLinked f d n L) (o c : ℕ)
    (none : (f c).owner ≡ None) (lt : c < n)
    (here : h c ≡ record { owner = Some o; previous = None; next = None })
    (there : (x : ℕ) → x ≢ c → h x ≡ f x)
    (joins : (x : ℕ) → g x ≡ joined (d o).last (Some c) x (h x))
    (ends_here : e o ≡ record { first = option_or (d o).first (Some c); last = Some c })
    (ends_there : (p : ℕ) → p ≢ o → e p ≡ d p)
    (list_here : M o ≡ L o ++ c ∷ [])
    (list_there : (p : ℕ) → p ≢ o → M p ≡ L p) where
  push_lacks : (p : ℕ) → has c (L p) ≡ false
  push_lacks p = lacks_unowned f g d e n n L M k p c none

  push_apart : StandApart (L o) (c ∷ [])
  push_apart = record {
    front = k.once o;
    back = (refl, tt);
    apart = λ x t. elim (cases_eq x c) [
      | inl i ↦ absurd (both_ways _ (push_lacks o) (subst (λ v. has v (L o) ≡ true) i t))
      | inr ne ↦ lacks_both x c [] ne refl
    ];
  }

  push_rebuilt : IsRebuilt g (e o) n (L o ++ c ∷ []) o
  push_rebuilt = record {
    chain = chain_joined h g o None None (L o) (c ∷ [])
        (chain_frame f h o None None (L o) (k.chain o) (λ x t. there x (apart x c (L o) t (push_lacks o))))
        (here, tt)
        push_apart
        (λ x _. joins x ∙ ap (λ (v : Ends). joined v.last (Some c) x (h x)) (k.ends_are o));
    ends = ends_here ∙ (ap (λ (v : Ends). record { first = option_or v.first (Some c); last = Some c }) (k.ends_are o)
        ∙ (ap (λ (v : Option ℕ). record { first = v; last = Some c }) (option_or-first (L o) (Some c) ∙ sym (first_or-append (L o) (c ∷ []) None))
        ∙ ap (λ (v : Option ℕ). record { first = first_or (L o ++ c ∷ []) None; last = v }) (sym (last_or-append (L o) (c ∷ []) None))));
    once = once_from_apart (L o) (c ∷ []) (k.once o) (refl, tt) push_apart.apart;
    in_range = λ x t. elim (has_either x (L o) (c ∷ []) t) [
      | inl i ↦ k.in_range o x i
      | inr i ↦ elim (has_cases x c [] i) [ inl j ↦ subst (λ v. v < n) (sym j) lt | inr j ↦ absurd (both_ways false refl j) ]
    ];
  }

  -- a place that stays
  push_same : (x : ℕ) → x ≢ c → has x (L o) ≡ false → g x ≡ f x
  push_same x ne t =
      joined_other f g d e n n L M k (d o).last (Some c) x h (joins x) (there x ne) (last_of_other f g d e n n L M k o x t) (ne_eqb x c ne)

  push_owner : (x : ℕ) → (g x).owner ≡ (h x).owner
  push_owner x = ap (λ (p : Place). p.owner) (joins x)

  pub push_linked : IsLinked g e n M
  push_linked = relinked f g d e n n L M k (omega arith)
      (λ p. elim (cases_eq p o) as (λ _. IsSame f g (d p) (e p) (L p) (M p) ⊎ IsRebuilt g (e p) n (M p) p) [
        | inl i ↦ inr (subst (λ q. IsRebuilt g (e q) n (M q) q) (sym i) (subst (λ xs. IsRebuilt g (e o) n xs o) (sym list_here) push_rebuilt))
        | inr ne ↦ inl (record {
          list = list_there p ne;
          ends = ends_there p ne;
          places = λ x t. push_same x (apart x c (L p) t (push_lacks p)) (lacks_other f g d e n n L M k o p x ne t);
        })
      ])
      (λ x p t. elim (cases_eq x c) [
        | inl i ↦ let s : Some p ≡ Some o = sym t ∙ (push_owner x ∙ (ap (λ v. (h v).owner) i ∙ ap (λ (q : Place). q.owner) here)) in
            subst (λ q. has x (M q) ≡ true) (sym (other_owner s)) (subst (λ xs. has x xs ≡ true) (sym list_here) (has_right x (L o) (c ∷ []) (has_at x c [] i)))
        | inr ne ↦ let t' : has x (L p) ≡ true = k.owned x p (ap (λ (q : Place). q.owner) (sym (there x ne)) ∙ (sym (push_owner x) ∙ t)) in
            elim (cases_eq p o) [
              | inl i ↦ subst (λ q. has x (M q) ≡ true) (sym i) (subst (λ xs. has x xs ≡ true) (sym list_here) (has_left x (L o) (c ∷ []) (subst (λ q. has x (L q) ≡ true) i t')))
              | inr j ↦ subst (λ xs. has x xs ≡ true) (sym (list_there p j)) t'
            ]
      ])
      (λ x t. elim (cases_eq x c) [
        | inl i ↦ let s : None ≡ Some o = sym t ∙ (push_owner x ∙ (ap (λ v. (h v).owner) i ∙ ap (λ (q : Place). q.owner) here)) in absurd cc
        | inr ne ↦ let t' : (f x).owner ≡ None = ap (λ (q : Place). q.owner) (sym (there x ne)) ∙ (sym (push_owner x) ∙ t) in
            push_same x ne (lacks_unowned f g d e n n L M k o x t') ∙ k.free x t'
      ])

-- a cell is taken out of the list of o: h has the places with its neighbours joined, g its own cleared
module _ (f h g : ℕ → Place) (d e : ℕ → Ends) (n : ℕ) (L M : ℕ → List ℕ) (k : IsLinked f d n L) (o c : ℕ)
    (owner : (f c).owner ≡ Some o)
    (joins : (x : ℕ) → h x ≡ joined (f c).previous (f c).next x (f x))
    (here : g c ≡ place_in_no_list)
    (there : (x : ℕ) → x ≢ c → g x ≡ h x)
    (ends_here : e o ≡ ends_without (d o) (f c))
    (ends_there : (p : ℕ) → p ≢ o → e p ≡ d p)
    (lists : (p : ℕ) → M p ≡ without c (L p)) where
  unlink_owner : (x : ℕ) → x ≢ c → (g x).owner ≡ (f x).owner
  unlink_owner x ne = ap (λ (p : Place). p.owner) (there x ne ∙ joins x)

  module _ (xs ys : List ℕ) (split : L o ≡ xs ++ c ∷ ys) where
    unlink_chain : IsChain f o None xs (Some c) × IsChain f o (last_or xs None) (c ∷ ys) None
    unlink_chain = chain_split f o None None xs (c ∷ ys) (subst (λ zs. IsChain f o None zs None) split (k.chain o))

    unlink_apart : StandApart xs (c ∷ ys)
    unlink_apart = apart_from_once xs (c ∷ ys) (subst StandsOnce split (k.once o))

    unlink_lacks : has c xs ≡ false
    unlink_lacks = false_from_ne_true (has c xs) (λ t. both_ways _ (unlink_apart.apart c t) (has_here c ys))

    unlink_list : M o ≡ xs ++ ys
    unlink_list = lists o ∙ (ap (without c) split ∙ without_middle c xs ys unlink_lacks unlink_apart.back.0)

    unlink_joins : (x : ℕ) → x ≢ c → g x ≡ joined (last_or xs None) (first_or ys None) x (f x)
    unlink_joins x ne = there x ne ∙ (joins x ∙ ap (λ (p : Place). joined p.previous p.next x (f x)) unlink_chain.1.0)

    unlink_kept : StandApart xs ys
    unlink_kept = record { front = unlink_apart.front; back = unlink_apart.back.1; apart = λ x t. lacks_rest x c ys (unlink_apart.apart x t) }

    unlink_rebuilt : IsRebuilt g (e o) n (xs ++ ys) o
    unlink_rebuilt = record {
      chain = chain_joined f g o (Some c) (Some c) xs ys unlink_chain.0 unlink_chain.1.1 unlink_kept
          (λ x s. unlink_joins x (elim s [ inl t ↦ apart x c xs t unlink_lacks | inr t ↦ apart x c ys t unlink_apart.back.0 ]));
      ends = ends_here ∙ (ap (λ (v : Ends). ends_without v (f c)) (k.ends_are o ∙ ap ends_of split)
          ∙ (ap (λ (p : Place). ends_without (ends_of (xs ++ c ∷ ys)) p) unlink_chain.1.0 ∙ ends_of-without (Some o) c xs ys));
      once = once_from_apart xs ys unlink_kept.front unlink_kept.back unlink_kept.apart;
      in_range = λ x t. k.in_range o x (subst (λ zs. has x zs ≡ true) (sym split) (elim (has_either x xs ys t) [
        | inl i ↦ has_left x xs (c ∷ ys) i
        | inr i ↦ has_right x xs (c ∷ ys) (has_behind x c ys i)
      ]));
    }

    -- a place that stays
    unlink_same : (x : ℕ) → x ≢ c → has x (L o) ≡ false → g x ≡ f x
    unlink_same x ne t =
        let t' : has x (xs ++ c ∷ ys) ≡ false = subst (λ zs. has x zs ≡ false) split t in
        unlink_joins x ne ∙ joined_elsewhere (last_or xs None) (first_or ys None) x (f x)
        (last_elsewhere x xs None (lacks_left x xs (c ∷ ys) t') refl) (first_elsewhere x ys None (lacks_rest x c ys (lacks_right x xs (c ∷ ys) t')) refl)

    unlinked_so : IsLinked g e n M
    unlinked_so = relinked f g d e n n L M k (omega arith)
        (λ p. elim (cases_eq p o) as (λ _. IsSame f g (d p) (e p) (L p) (M p) ⊎ IsRebuilt g (e p) n (M p) p) [
          | inl i ↦ inr (subst (λ q. IsRebuilt g (e q) n (M q) q) (sym i) (subst (λ zs. IsRebuilt g (e o) n zs o) (sym unlink_list) unlink_rebuilt))
          | inr ne ↦ let lacks : has c (L p) ≡ false = lacks_other f g d e n n L M k p o c (λ i. ne (sym i)) (k.owned c o owner) in inl (record {
            list = lists p ∙ without_none c (L p) lacks;
            ends = ends_there p ne;
            places = λ x t. unlink_same x (apart x c (L p) t lacks) (lacks_other f g d e n n L M k o p x ne t);
          })
        ])
        (λ x p t. elim (cases_eq x c) [
          | inl i ↦ let s : None ≡ Some p = sym (ap (λ (q : Place). q.owner) (ap g i ∙ here)) ∙ t in absurd cc
          | inr ne ↦ subst (λ zs. has x zs ≡ true) (sym (lists p)) (has_without c x (L p) ne (k.owned x p (sym (unlink_owner x ne) ∙ t)))
        ])
        (λ x t. elim (cases_eq x c) [
          | inl i ↦ ap g i ∙ here
          | inr ne ↦ let t' : (f x).owner ≡ None = sym (unlink_owner x ne) ∙ t in
              unlink_same x ne (lacks_unowned f g d e n n L M k o x t') ∙ k.free x t'
        ])

  pub unlink_linked : IsLinked g e n M
  unlink_linked = let s = split_at_cell c (L o) (k.owned c o owner) in unlinked_so s.0 s.1.0 s.1.1

-- the list of o goes behind that of t: h has the places with their new owner, g those joined
module _ (f h g : ℕ → Place) (d e : ℕ → Ends) (n : ℕ) (L M : ℕ → List ℕ) (k : IsLinked f d n L) (o t : ℕ) (two : o ≢ t)
    (gives : (x : ℕ) → h x ≡ given t (L o) x (f x))
    (joins : (x : ℕ) → g x ≡ joined (d t).last (d o).first x (h x))
    (ends_taker : e t ≡ record { first = option_or (d t).first (d o).first; last = option_or (d o).last (d t).last })
    (ends_giver : e o ≡ no_ends)
    (ends_there : (p : ℕ) → p ≢ o → p ≢ t → e p ≡ d p)
    (list_taker : M t ≡ L t ++ L o)
    (list_giver : M o ≡ [])
    (list_there : (p : ℕ) → p ≢ o → p ≢ t → M p ≡ L p) where
  move_apart : StandApart (L t) (L o)
  move_apart = record { front = k.once t; back = k.once o; apart = λ x s. lacks_other f g d e n n L M k o t x (λ i. two (sym i)) s }

  move_given : (x : ℕ) → has x (L o) ≡ true → h x ≡ record { owner = Some t; previous = (f x).previous; next = (f x).next }
  move_given x s = gives x ∙ ap (λ (v : Bool). record { owner = cond v (Some t) (f x).owner; previous = (f x).previous; next = (f x).next }) s

  move_kept : (x : ℕ) → has x (L o) ≡ false → h x ≡ f x
  move_kept x s = gives x ∙ ap (λ (v : Bool). record { owner = cond v (Some t) (f x).owner; previous = (f x).previous; next = (f x).next }) s

  move_owner : (x : ℕ) → (g x).owner ≡ (h x).owner
  move_owner x = ap (λ (p : Place). p.owner) (joins x)

  move_rebuilt : IsRebuilt g (e t) n (L t ++ L o) t
  move_rebuilt = record {
    chain = chain_joined h g t None None (L t) (L o)
        (chain_frame f h t None None (L t) (k.chain t) (λ x s. move_kept x (move_apart.apart x s)))
        (chain_given f h o t None None (L o) (k.chain o) move_given)
        move_apart
        (λ x _. joins x ∙ (ap (λ (v : Ends). joined v.last (d o).first x (h x)) (k.ends_are t)
        ∙ ap (λ (v : Ends). joined (last_or (L t) None) v.first x (h x)) (k.ends_are o)));
    ends = ends_taker ∙ (ap (λ (v : Ends). record { first = option_or v.first (d o).first; last = option_or (d o).last v.last }) (k.ends_are t)
        ∙ (ap (λ (v : Ends). record { first = option_or (first_or (L t) None) v.first; last = option_or v.last (last_or (L t) None) }) (k.ends_are o)
        ∙ (ap (λ (v : Option ℕ). record { first = v; last = option_or (last_or (L o) None) (last_or (L t) None) })
        (option_or-first (L t) (first_or (L o) None) ∙ sym (first_or-append (L t) (L o) None))
        ∙ ap (λ (v : Option ℕ). record { first = first_or (L t ++ L o) None; last = v })
        (option_or-last (L o) (last_or (L t) None) ∙ sym (last_or-append (L t) (L o) None)))));
    once = once_from_apart (L t) (L o) (k.once t) (k.once o) move_apart.apart;
    in_range = λ x s. elim (has_either x (L t) (L o) s) [ inl i ↦ k.in_range t x i | inr i ↦ k.in_range o x i ];
  }

  -- a place that stays
  move_same : (x : ℕ) → has x (L o) ≡ false → has x (L t) ≡ false → g x ≡ f x
  move_same x p q =
      joined_other f g d e n n L M k (d t).last (d o).first x h (joins x) (move_kept x p) (last_of_other f g d e n n L M k t x q) (first_of_other f g d e n n L M k o x p)

  move_each : (p : ℕ) → IsSame f g (d p) (e p) (L p) (M p) ⊎ IsRebuilt g (e p) n (M p) p
  move_each p = elim (cases_eq p t) as (λ _. IsSame f g (d p) (e p) (L p) (M p) ⊎ IsRebuilt g (e p) n (M p) p) [
    | inl i ↦ inr (subst (λ q. IsRebuilt g (e q) n (M q) q) (sym i) (subst (λ zs. IsRebuilt g (e t) n zs t) (sym list_taker) move_rebuilt))
    | inr nt ↦ elim (cases_eq p o) as (λ _. IsSame f g (d p) (e p) (L p) (M p) ⊎ IsRebuilt g (e p) n (M p) p) [
      | inl i ↦ inr (subst (λ q. IsRebuilt g (e q) n (M q) q) (sym i) (subst (λ zs. IsRebuilt g (e o) n zs o) (sym list_giver) (record {
        chain = tt;
        ends = ends_giver;
        once = tt;
        in_range = λ x s. absurd (both_ways false refl s);
      })))
      | inr ng ↦ inl (record {
        list = list_there p ng nt;
        ends = ends_there p ng nt;
        places = λ x s. move_same x (lacks_other f g d e n n L M k o p x ng s) (lacks_other f g d e n n L M k t p x nt s);
      })
    ]
  ]

  -- a cell of any other list, and of the one that takes, is where it was
  move_has : (x p : ℕ) → p ≢ o → has x (L p) ≡ true → has x (M p) ≡ true
  move_has x p ng s = elim (cases_eq p t) [
    | inl i ↦ subst (λ q. has x (M q) ≡ true) (sym i) (subst (λ zs. has x zs ≡ true) (sym list_taker) (has_left x (L t) (L o) (subst (λ q. has x (L q) ≡ true) i s)))
    | inr nt ↦ subst (λ zs. has x zs ≡ true) (sym (list_there p ng nt)) s
  ]

  move_owned : (x p : ℕ) → (g x).owner ≡ Some p → has x (M p) ≡ true
  move_owned x p s = elim (cases_Bool (has x (L o))) [
    | inl i ↦ let to : Some p ≡ Some t = sym s ∙ (move_owner x ∙ ap (λ (q : Place). q.owner) (move_given x i)) in
        subst (λ q. has x (M q) ≡ true) (sym (other_owner to)) (subst (λ zs. has x zs ≡ true) (sym list_taker) (has_right x (L t) (L o) i))
    | inr i ↦ let s' : has x (L p) ≡ true = k.owned x p (ap (λ (q : Place). q.owner) (sym (move_kept x i)) ∙ (sym (move_owner x) ∙ s)) in
        move_has x p (λ j. both_ways _ i (subst (λ q. has x (L q) ≡ true) j s')) s'
  ]

  move_free : (x : ℕ) → (g x).owner ≡ None → g x ≡ place_in_no_list
  move_free x s = elim (cases_Bool (has x (L o))) [
    | inl i ↦ let to : None ≡ Some t = sym s ∙ (move_owner x ∙ ap (λ (q : Place). q.owner) (move_given x i)) in absurd cc
    | inr i ↦ let s' : (f x).owner ≡ None = ap (λ (q : Place). q.owner) (sym (move_kept x i)) ∙ (sym (move_owner x) ∙ s) in
        move_same x i (lacks_unowned f g d e n n L M k t x s') ∙ k.free x s'
  ]

  pub move_linked : IsLinked g e n M
  move_linked = relinked f g d e n n L M k (omega arith) move_each move_owned move_free
