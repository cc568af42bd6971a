-- Each call's equation, over the vectors that it reads and writes.
use Rattle.std.proofs.Common.{◌≡◌, ◌≢◌, ℕ, ◌-◌, ◌<◌, ◌≤◌, true, false, List, [], ◌∷◌, ◌++◌, length, get_or, map, set, replicate, Some, None, Option, IfSome, IsSome, refl, sym, ◌∙◌, ap, subst, inl, inr, arith}
use Rattle.std.specs.Option.{option_or}
use Rattle.std.proofs.lemmas.Bool.{cases_lt, both_ways}
use Rattle.std.proofs.lemmas.List.{get_or-map, get_or_default, get_or_past, get_or-set_same, get_or-set_other, get_or-replicate, get_or_append_left, get_or-append_right, length-map, length-set, length-append, length-replicate}
use Rattle.lw_links.specs.Owners.{ListsByOwner, Spells, has, without, list_of, owner_of, empty_lists, grown, pushed, unlinked, moved}
use Rattle.lw_links.specs.Chains.{place_in_no_list, no_ends, place_of_cell, ends_at, first_or, last_or, IsChain, IsLinked, KeepsLists, lists_in, way_in, joined, given, ends_without}
use Rattle.lw_links.specs.declared.links.Place.{Place}
use Rattle.lw_links.specs.declared.links.Ends.{Ends}
use Rattle.lw_links.proofs.CellLemmas.{has_here, has_behind, has_left, has_right, split_at_cell, exists_from_has}
use Rattle.lw_links.proofs.ChainLemmas.{chain_split, chain_spells}
use Rattle.lw_links.proofs.LinkLemmas.{relinked, push_linked, unlink_linked, move_linked}
use Rattle.lw_links.proofs.KeepLemmas.{Keeps, keeps, list_in, seen, seen_owner}

-- ends and places that keep lists and are seen as these
pub record Made (ends : List Ends) (places : List Place) (w : ListsByOwner) : Type 0 where
  pub invariant : KeepsLists ends places
  pub view : seen ends places ≡ w

made : (ends : List Ends) (places : List Place) (w : ListsByOwner) → length ends ≡ length w.lists → length places ≡ w.cells
    → IsLinked (place_of_cell places) (ends_at ends) w.cells (list_of w) → Made ends places w
made ends places w le lp k =
    let s : Keeps ends places w.lists = keeps ends places w.lists le (subst (λ n. IsLinked (place_of_cell places) (ends_at ends) n (list_of w)) (sym lp) k) in record {
      invariant = s.invariant;
      view = ap (λ (n : ℕ). record { cells = n; lists = lists_in ends places }) lp ∙ ap (λ (ls : List (List ℕ)). record { cells = w.cells; lists = ls }) s.view;
    }

-- the ends of a list, and a cell's neighbours, are cells of it
first_is_in : (ys xs : List ℕ) → ((c : ℕ) → has c xs ≡ true → has c ys ≡ true) → IfSome (first_or xs None) (λ c. has c ys ≡ true)
first_is_in ys [] s = tt
first_is_in ys (x ∷ xs) s = s x (has_here x xs)

last_is_in : (ys xs : List ℕ) (b : Option ℕ) → IfSome b (λ c. has c ys ≡ true) → ((c : ℕ) → has c xs ≡ true → has c ys ≡ true) → IfSome (last_or xs b) (λ c. has c ys ≡ true)
last_is_in ys [] b h s = h
last_is_in ys (x ∷ xs) b h s = last_is_in ys xs (Some x) (s x (has_here x xs)) (λ c t. s c (has_behind c x xs t))

some_below : (n : ℕ) (xs : List ℕ) → ((c : ℕ) → has c xs ≡ true → c < n) → (s : Option ℕ) → IfSome s (λ c. has c xs ≡ true) → IfSome s (λ c. c < n)
some_below n xs h None t = tt
some_below n xs h (Some c) t = h c t

module _ (ends : List Ends) (places : List Place) (k : KeepsLists ends places) where
  pub last_below : (o : ℕ) → IfSome (ends_at ends o).last (λ c. c < length places)
  last_below o = subst (λ (e : Ends). IfSome e.last (λ c. c < length places)) (sym (k.ends_are o))
      (some_below (length places) (list_in ends places o) (k.in_range o) _ (last_is_in (list_in ends places o) (list_in ends places o) None tt (λ c t. t)))

  pub first_below : (o : ℕ) → IfSome (ends_at ends o).first (λ c. c < length places)
  first_below o = subst (λ (e : Ends). IfSome e.first (λ c. c < length places)) (sym (k.ends_are o))
      (some_below (length places) (list_in ends places o) (k.in_range o) _ (first_is_in (list_in ends places o) (list_in ends places o) (λ c t. t)))

  -- what is known of a cell that an owner has
  pub record IsHeld (o c : ℕ) : Type 0 where
    pub cell : c < length places
    pub owner : o < length ends
    pub previous : IfSome (place_of_cell places c).previous (λ x. x < length places)
    pub next : IfSome (place_of_cell places c).next (λ x. x < length places)

  pub held : (o c : ℕ) → (place_of_cell places c).owner ≡ Some o → IsHeld o c
  held o c e = by (split_at_cell c (list_in ends places o) (k.owned c o e))
    where
      below : (s : Option ℕ) → IfSome s (λ x. has x (list_in ends places o) ≡ true) → IfSome s (λ x. x < length places)
      below s = some_below (length places) (list_in ends places o) (k.in_range o) s

      by : (front : List ℕ) × ((back : List ℕ) × (list_in ends places o ≡ front ++ c ∷ back)) → IsHeld o c
      by s =
          let at = (chain_split (place_of_cell places) o None None s.0 (c ∷ s.1.0) (subst (λ zs. IsChain (place_of_cell places) o None zs None) s.1.1 (k.chain o))).1.0 in
          let front : (x : ℕ) → has x s.0 ≡ true → has x (list_in ends places o) ≡ true =
          λ x t. subst (λ zs. has x zs ≡ true) (sym s.1.1) (has_left x s.0 (c ∷ s.1.0) t) in
          let back : (x : ℕ) → has x s.1.0 ≡ true → has x (list_in ends places o) ≡ true =
          λ x t. subst (λ zs. has x zs ≡ true) (sym s.1.1) (has_right x s.0 (c ∷ s.1.0) (has_behind x c s.1.0 t)) in
          record {
            cell = k.in_range o c (k.owned c o e);
            owner = rw (← length-map ends (λ (e : Ends). way_in places e.first)) (exists_from_has (lists_in ends places) o c (k.owned c o e));
            previous = subst (λ (p : Place). IfSome p.previous (λ x. x < length places)) (sym at) (below _ (last_is_in (list_in ends places o) s.0 None tt front));
            next = subst (λ (p : Place). IfSome p.next (λ x. x < length places)) (sym at) (below _ (first_is_in (list_in ends places o) s.1.0 back));
          }

-- the place of a cell that is an owner's, before it has neighbours
abbrev pub first_place : ℕ → Place
first_place o = record { owner = Some o; previous = None; next = None }

-- a value, and what is seen of it
module _ (ends : List Ends) (places : List Place) (v : ListsByOwner) (is : seen ends places ≡ v) (k : KeepsLists ends places) where
  owners : length ends ≡ length v.lists
  owners = sym (length-map ends _) ∙ ap (λ (w : ListsByOwner). length w.lists) is

  cells : length places ≡ v.cells
  cells = ap (λ (w : ListsByOwner). w.cells) is

  lists_len : length ends ≡ length (lists_in ends places)
  lists_len = sym (length-map ends _)

  pub push_previous : (o : ℕ) (b : Ends) (n : ℕ) → o < length v.lists → b ≡ get_or ends o b → n ≡ length places → IfSome b.last (λ c. c < n)
  push_previous o b n owner_exists at len =
      let lt : o < length ends = rw owners owner_exists in
      rw (len, at ∙ get_or_default ends o b no_ends lt) (last_below ends places k o)

  module _ (o c : ℕ) (b : Ends) (P Q : List Place) (first : Option ℕ)
      (owner_exists : o < length v.lists) (cell_exists : c < v.cells) (none : owner_of v c ≡ None)
      (b_at : b ≡ get_or ends o b) (same : P ≡ Q) (len : length Q ≡ length places)
      (first_is : first ≡ option_or b.first (Some c))
      (joins : (x : ℕ) → place_of_cell Q x ≡ joined b.last (Some c) x (place_of_cell (set places c (first_place o)) x)) where
    pub push_made : Made (set ends o (record { first = first; last = Some c })) P (pushed v o c)
    push_made =
        let o_lt : o < length ends = rw owners owner_exists in
        let l_lt : o < length (lists_in ends places) = rw (← lists_len) o_lt in
        let c_lt : c < length places = rw cells cell_exists in
        let b_is : b ≡ ends_at ends o = b_at ∙ get_or_default ends o b no_ends o_lt in
        subst (λ w. Made (set ends o (record { first = first; last = Some c })) P (pushed w o c)) is
        (subst (λ q. Made (set ends o (record { first = first; last = Some c })) q (pushed (seen ends places) o c)) (sym same)
        (made _ Q (pushed (seen ends places) o c) (length-set ends o _ ∙ (lists_len ∙ sym (length-set (lists_in ends places) o _))) len
        (push_linked (place_of_cell places) (place_of_cell (set places c (first_place o))) (place_of_cell Q)
        (ends_at ends) (ends_at (set ends o (record { first = first; last = Some c }))) (length places)
        (list_in ends places) (list_of (pushed (seen ends places) o c)) k o c
        (seen_owner ends places k c ∙ (ap (λ w. owner_of w c) is ∙ none)) c_lt
        (get_or-set_same places c _ place_in_no_list c_lt)
        (λ x ne. get_or-set_other places c x _ place_in_no_list ne)
        (λ x. joins x ∙ ap (λ (e : Ends). joined e.last (Some c) x (place_of_cell (set places c (first_place o)) x)) b_is)
        (get_or-set_same ends o _ no_ends o_lt ∙ ap (λ (s : Option ℕ). record { first = s; last = Some c }) (first_is ∙ ap (λ (e : Ends). option_or e.first (Some c)) b_is))
        (λ p ne. get_or-set_other ends o p _ no_ends ne)
        (get_or-set_same (lists_in ends places) o _ [] l_lt)
        (λ p ne. get_or-set_other (lists_in ends places) o p _ [] ne))))

  -- what `unlink` asks of the vectors, and what it makes
  module _ (c : ℕ) (some : IsSome (owner_of v c)) where
    with_owner : (s : Option ℕ) → (place_of_cell places c).owner ≡ s → IsSome s → (o : ℕ) × ((place_of_cell places c).owner ≡ Some o)
    with_owner None e t = absurd (both_ways false refl t)
    with_owner (Some o) e t = (o, e)

    owned : (o : ℕ) × ((place_of_cell places c).owner ≡ Some o)
    owned = with_owner (place_of_cell places c).owner refl
        (subst (λ s. IsSome s) (sym (seen_owner ends places k c ∙ ap (λ w. owner_of w c) is)) some)

    pub unlink_cell : c < length places
    unlink_cell = (held ends places k owned.0 c owned.1).cell

    module _ (r : Place) (r_at : r ≡ get_or places c r) where
      r_is : r ≡ place_of_cell places c
      r_is = r_at ∙ get_or_default places c r place_in_no_list unlink_cell

      pub unlink_some : IsSome r.owner
      unlink_some = subst (λ s. IsSome s) (sym (ap (λ (p : Place). p.owner) r_is ∙ owned.1)) refl

      pub unlink_held : (o : ℕ) → r.owner ≡ Some o → IsHeld ends places k o c
      unlink_held o e = held ends places k o c (sym (ap (λ (p : Place). p.owner) r_is) ∙ e)

      pub unlink_owner : (o : ℕ) → r.owner ≡ Some o → o < length ends
      unlink_owner o e = (unlink_held o e).owner

      pub unlink_previous : (n : ℕ) → n ≡ length places → IfSome r.previous (λ x. x < n)
      unlink_previous n len = rw len (subst (λ (p : Place). IfSome p.previous (λ x. x < length places)) (sym r_is) (held ends places k owned.0 c owned.1).previous)

      pub unlink_next : (n : ℕ) → n ≡ length places → IfSome r.next (λ x. x < n)
      unlink_next n len = rw len (subst (λ (p : Place). IfSome p.next (λ x. x < length places)) (sym r_is) (held ends places k owned.0 c owned.1).next)

      module _ (o : ℕ) (b e : Ends) (P Q : List Place) (owner : r.owner ≡ Some o) (b_at : b ≡ get_or ends o b) (same : P ≡ Q) (len : length Q ≡ length places)
          (e_is : e ≡ ends_without b r)
          (joins : (x : ℕ) → place_of_cell Q x ≡ joined r.previous r.next x (place_of_cell places x)) where
        lists_without : (p : ℕ) → get_or (map (without c) (lists_in ends places)) p [] ≡ without c (list_in ends places p)
        lists_without p = elim (cases_lt p (length (lists_in ends places))) [
          | inl lt ↦ get_or-map (without c) (lists_in ends places) p [] [] lt
          | inr le ↦ get_or_past (map (without c) (lists_in ends places)) p [] (rw length-map le)
              ∙ ap (without c) (sym (get_or_past (lists_in ends places) p [] le))
        ]

        pub unlink_made : Made (set ends o e) (set P c place_in_no_list) (unlinked v c)
        unlink_made =
            let o_lt : o < length ends = unlink_owner o owner in
            let c_lt : c < length Q = rw len unlink_cell in
            let b_is : b ≡ ends_at ends o = b_at ∙ get_or_default ends o b no_ends o_lt in
            subst (λ w. Made (set ends o e) (set P c place_in_no_list) (unlinked w c)) is
            (subst (λ q. Made (set ends o e) (set q c place_in_no_list) (unlinked (seen ends places) c)) (sym same)
            (made _ (set Q c place_in_no_list) (unlinked (seen ends places) c)
            (length-set ends o _ ∙ (lists_len ∙ sym (length-map (lists_in ends places) (without c)))) (length-set Q c _ ∙ len)
            (unlink_linked (place_of_cell places) (place_of_cell Q) (place_of_cell (set Q c place_in_no_list)) (ends_at ends) (ends_at (set ends o e)) (length places)
            (list_in ends places) (list_of (unlinked (seen ends places) c)) k o c
            (sym (ap (λ (p : Place). p.owner) r_is) ∙ owner)
            (λ x. joins x ∙ ap (λ (p : Place). joined p.previous p.next x (place_of_cell places x)) r_is)
            (get_or-set_same Q c _ place_in_no_list c_lt)
            (λ x ne. get_or-set_other Q c x _ place_in_no_list ne)
            (get_or-set_same ends o _ no_ends o_lt ∙ (e_is ∙ (ap (λ (d : Ends). ends_without d r) b_is ∙ ap (λ (p : Place). ends_without (ends_at ends o) p) r_is)))
            (λ p ne. get_or-set_other ends o p _ no_ends ne)
            lists_without)))

  -- the way from the first cell of an owner's list is that list
  module _ (o : ℕ) (exists : o < length v.lists) (a : Ends) (at : a ≡ get_or ends o a) (S : List Place) (same_places : S ≡ places) where
    first_is : a ≡ ends_at ends o
    first_is = let lt : o < length ends = rw owners exists in at ∙ get_or_default ends o a no_ends lt

    pub list_is : way_in S a.first ≡ list_in ends places o
    list_is =
        let lt : o < length ends = rw owners exists in
        ap (λ q. way_in q a.first) same_places ∙ (ap (λ (e : Ends). way_in places e.first) first_is
        ∙ sym (get_or-map (λ (e : Ends). way_in places e.first) ends o no_ends [] lt))

    pub list_way : Spells (λ x. (place_of_cell S x).next) a.first (way_in S a.first)
    list_way = subst (λ xs. Spells (λ x. (place_of_cell S x).next) a.first xs) (sym list_is)
        (subst (λ q. Spells (λ x. (place_of_cell q x).next) a.first (list_in ends places o)) (sym same_places)
        (subst (λ (s : Option ℕ). Spells (λ x. (place_of_cell places x).next) s (list_in ends places o))
        (sym (ap (λ (e : Ends). e.first) (first_is ∙ k.ends_are o)))
        (chain_spells (place_of_cell places) o None (list_in ends places o) (k.chain o))))

    pub list_exist : (x : ℕ) → has x (way_in S a.first) ≡ true → x < length S
    list_exist x h = subst (λ (q : List Place). x < length q) (sym same_places) (k.in_range o x (subst (λ xs. has x xs ≡ true) list_is h))

    pub list_of_is : way_in S a.first ≡ list_of v o
    list_of_is = list_is ∙ ap (λ (w : ListsByOwner). list_of w o) is

  -- what `move_all` asks of the vectors, and what it makes
  module _ (o t : ℕ) (two : o ≢ t) (o_exists : o < length v.lists) (t_exists : t < length v.lists)
      (a b : Ends) (a_at : a ≡ get_or ends o a) (b_at : b ≡ get_or ends t b) (S : List Place) (same_places : S ≡ places) where
    a_is : a ≡ ends_at ends o
    a_is = let lt : o < length ends = rw owners o_exists in a_at ∙ get_or_default ends o a no_ends lt

    b_is : b ≡ ends_at ends t
    b_is = let lt : t < length ends = rw owners t_exists in b_at ∙ get_or_default ends t b no_ends lt

    way_is : way_in S a.first ≡ list_in ends places o
    way_is = list_is o o_exists a a_at S same_places

    pub move_way : Spells (λ x. (place_of_cell S x).next) a.first (way_in S a.first)
    move_way = list_way o o_exists a a_at S same_places

    pub move_previous : (n : ℕ) → n ≡ length places → IfSome b.last (λ x. x < n)
    move_previous n len = rw (len, b_is) (last_below ends places k t)

    pub move_next : (n : ℕ) → n ≡ length places → IfSome a.first (λ x. x < n)
    move_next n len = rw (len, a_is) (first_below ends places k o)

    module _ (G P Q : List Place) (first last : Option ℕ) (same : P ≡ Q) (len : length Q ≡ length places)
        (gives : (x : ℕ) → place_of_cell G x ≡ given t (way_in S a.first) x (place_of_cell S x))
        (joins : (x : ℕ) → place_of_cell Q x ≡ joined b.last a.first x (place_of_cell G x))
        (first_is : first ≡ option_or b.first a.first) (last_is : last ≡ option_or a.last b.last) where
      abbrev ends_then : List Ends
      ends_then = set (set ends t (record { first = first; last = last })) o no_ends

      others_then : (p : ℕ) → p ≢ o → p ≢ t → ends_at ends_then p ≡ ends_at ends p
      others_then p n m = get_or-set_other (set ends t _) o p _ no_ends n ∙ get_or-set_other ends t p _ no_ends m

      move_linked_so : IsLinked (place_of_cell Q) (ends_at ends_then) (length places) (list_of (moved (seen ends places) o t))
      move_linked_so =
          let o_lt : o < length ends = rw owners o_exists in
          let t_lt : t < length ends = rw owners t_exists in
          let o_lt' : o < length (set ends t (record { first = first; last = last })) = rw length-set o_lt in
          let l_lt : t < length (lists_in ends places) = rw (← lists_len) t_lt in
          let l_lt' : o < length (set (lists_in ends places) t (list_in ends places t ++ list_in ends places o)) = rw (length-set, ← lists_len) o_lt in
          move_linked (place_of_cell places) (place_of_cell G) (place_of_cell Q) (ends_at ends) (ends_at ends_then) (length places)
          (list_in ends places) (list_of (moved (seen ends places) o t)) k o t two
          (λ x. gives x ∙ (ap (λ xs. given t xs x (place_of_cell S x)) way_is ∙ ap (λ q. given t (list_in ends places o) x (place_of_cell q x)) same_places))
          (λ x. joins x ∙ (ap (λ (e : Ends). joined e.last a.first x (place_of_cell G x)) b_is ∙ ap (λ (e : Ends). joined (ends_at ends t).last e.first x (place_of_cell G x)) a_is))
          (get_or-set_other (set ends t _) o t _ no_ends (λ i. two (sym i)) ∙ (get_or-set_same ends t _ no_ends t_lt
          ∙ (ap (λ (s : Option ℕ). record { first = s; last = last }) (first_is ∙ (ap (λ (e : Ends). option_or e.first a.first) b_is ∙ ap (λ (e : Ends). option_or (ends_at ends t).first e.first) a_is))
          ∙ ap (λ (s : Option ℕ). record { first = option_or (ends_at ends t).first (ends_at ends o).first; last = s })
          (last_is ∙ (ap (λ (e : Ends). option_or e.last b.last) a_is ∙ ap (λ (e : Ends). option_or (ends_at ends o).last e.last) b_is)))))
          (get_or-set_same (set ends t _) o _ no_ends o_lt')
          others_then
          (get_or-set_other (set (lists_in ends places) t _) o t _ [] (λ i. two (sym i)) ∙ get_or-set_same (lists_in ends places) t _ [] l_lt)
          (get_or-set_same (set (lists_in ends places) t _) o _ [] l_lt')
          (λ p n m. get_or-set_other (set (lists_in ends places) t _) o p _ [] n ∙ get_or-set_other (lists_in ends places) t p _ [] m)

      pub move_made : Made (set (set ends t (record { first = first; last = last })) o no_ends) P (moved v o t)
      move_made =
          subst (λ w. Made (set (set ends t (record { first = first; last = last })) o no_ends) P (moved w o t)) is
          (subst (λ q. Made (set (set ends t (record { first = first; last = last })) o no_ends) q (moved (seen ends places) o t)) (sym same)
          (made _ Q (moved (seen ends places) o t)
          (length-set (set ends t _) o _ ∙ (length-set ends t _ ∙ (lists_len
          ∙ (sym (length-set (lists_in ends places) t _) ∙ sym (length-set (set (lists_in ends places) t _) o _)))))
          len move_linked_so))

-- the new vectors of `new` and `grow`: places and ends that are none are appended
get_or-replicate_none : {X : Type 0} (n i : ℕ) (d : X) → get_or (replicate n d) i d ≡ d
get_or-replicate_none n i d = elim (cases_lt i n) [
  | inl lt ↦ get_or-replicate n i d d lt
  | inr le ↦ get_or_past (replicate n d) i d (rw length-replicate le)
]

-- what is read past the end is none, and so is what was appended
pub get_or-append_none : {X : Type 0} (xs : List X) (n i : ℕ) (d : X) → get_or (xs ++ replicate n d) i d ≡ get_or xs i d
get_or-append_none xs n i d = elim (cases_lt i (length xs)) [
  | inl lt ↦ get_or_append_left xs (replicate n d) d i lt
  | inr le ↦ get_or-append_right xs (replicate n d) (length xs) i d refl le
      ∙ (get_or-replicate_none n (i - length xs) d ∙ sym (get_or_past xs i d le))
]

module _ (ends : List Ends) (places : List Place) (v : ListsByOwner) (is : seen ends places ≡ v) (k : KeepsLists ends places) (owners cells : ℕ)
    (owners_stay : length v.lists ≤ owners) (cells_stay : v.cells ≤ cells) (m n : ℕ) (m_is : m ≡ owners - length ends) (n_is : n ≡ cells - length places) where
  grow_linked : IsLinked (place_of_cell (places ++ replicate n place_in_no_list)) (ends_at (ends ++ replicate m no_ends)) cells (list_of (grown (seen ends places) owners cells))
  grow_linked =
      relinked (place_of_cell places) (place_of_cell (places ++ replicate n place_in_no_list)) (ends_at ends) (ends_at (ends ++ replicate m no_ends)) (length places) cells
      (list_in ends places) (list_of (grown (seen ends places) owners cells)) k (rw (ap (λ (w : ListsByOwner). w.cells) is) cells_stay)
      (λ p. inl (record {
        list = get_or-append_none (lists_in ends places) (owners - length (lists_in ends places)) p [];
        ends = get_or-append_none ends m p no_ends;
        places = λ x h. get_or-append_none places n x place_in_no_list;
      }))
      (λ x p e. subst (λ xs. has x xs ≡ true) (sym (get_or-append_none (lists_in ends places) (owners - length (lists_in ends places)) p []))
      (k.owned x p (ap (λ (q : Place). q.owner) (sym (get_or-append_none places n x place_in_no_list)) ∙ e)))
      (λ x e. get_or-append_none places n x place_in_no_list ∙ k.free x (ap (λ (q : Place). q.owner) (sym (get_or-append_none places n x place_in_no_list)) ∙ e))

  pub grow_made : (E D : List Ends) (P Q : List Place) → E ≡ D ++ replicate m no_ends → D ≡ ends → P ≡ Q ++ replicate n place_in_no_list → Q ≡ places → Made E P (grown v owners cells)
  grow_made E D P Q E_is D_is P_is Q_is =
      let le : length ends ≡ length (lists_in ends places) = sym (length-map ends _) in
      let few : length ends ≤ owners = rw (le ∙ ap (λ (w : ListsByOwner). length w.lists) is) owners_stay in
      let more : length places ≤ cells = rw (ap (λ (w : ListsByOwner). w.cells) is) cells_stay in
      subst (λ w. Made E P (grown w owners cells)) is (rw (E_is, P_is, D_is, Q_is) (made _ _ (grown (seen ends places) owners cells)
      (simp (length-append, length-replicate) (omega arith)) (simp (length-append, length-replicate) (omega arith)) grow_linked))

none_kept : KeepsLists [] []
none_kept = record {
  chain = λ o. tt;
  ends_are = λ o. refl;
  once = λ o. tt;
  in_range = λ o c h. absurd (both_ways false refl h);
  owned = λ c o e. let t : None ≡ Some o = e in absurd cc;
  free = λ c e. refl;
}

pub new_made : (owners cells : ℕ) (E D : List Ends) (P Q : List Place)
    → E ≡ D ++ replicate owners no_ends → D ≡ [] → P ≡ Q ++ replicate cells place_in_no_list → Q ≡ [] → Made E P (empty_lists owners cells)
new_made owners cells E D P Q E_is D_is P_is Q_is =
    let e : owners - 0 ≡ owners = omega arith in
    subst (λ o. Made E P (empty_lists o cells)) e
    (grow_made [] [] (record { cells = 0; lists = [] }) refl none_kept owners cells (omega arith) (omega arith) owners cells (omega arith) (omega arith) E D P Q E_is D_is P_is Q_is)
