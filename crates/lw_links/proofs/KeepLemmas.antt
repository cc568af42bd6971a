-- That places and ends keep the lists that they are read as, and what is read off them.
use Rattle.std.proofs.Common.{◌≡◌, ℕ, ◌<◌, true, List, [], length, get_or, Some, None, Option, refl, sym, ◌∙◌, ap, subst}
use Rattle.std.specs.Option.{option_and_then}
use Rattle.std.proofs.lemmas.List.{get_or-map, get_or_default, length-map, ext_get_or}
use Rattle.lw_links.specs.Owners.{ListsByOwner, HasEachOnce, has, behind, list_of, owner_of, next_of}
use Rattle.std.proofs.lemmas.List.Elements.{Contains-get_or}
use Rattle.lw_links.specs.Chains.{place_in_no_list, no_ends, place_of_cell, ends_at, first_or, IsLinked, KeepsLists, lists_in, walk}
use Rattle.lw_links.specs.declared.links.Place.{Place}
use Rattle.lw_links.specs.declared.links.Ends.{Ends}
use Rattle.lw_links.proofs.CellLemmas.{pairs_from_once, Contains-from_has, has-from_Contains, length_once, position-only, position-none, exists_from_has}
use Rattle.lw_links.proofs.ChainLemmas.{chain_spells, chain_next, walk_spelled}
use Rattle.lw_links.proofs.LinkLemmas.{owner_in, one_owner}

-- the lists that places and ends are read as
abbrev pub list_in : List Ends → List Place → ℕ → List ℕ
list_in ends places o = get_or (lists_in ends places) o []

abbrev pub KeepsThese : List Ends → List Place → List (List ℕ) → Type 0
KeepsThese ends places lists = IsLinked (place_of_cell places) (ends_at ends) (length places) (λ o. get_or lists o [])

-- places and ends that keep lists are read as those
pub lists_in-kept : (ends : List Ends) (places : List Place) (lists : List (List ℕ)) → length ends ≡ length lists → KeepsThese ends places lists → lists_in ends places ≡ lists
lists_in-kept ends places lists len k =
    ext_get_or [] (lists_in ends places) lists (length-map ends _ ∙ len) (λ o lt.
    let lt' : o < length ends = rw (← length-map ends (λ (e : Ends). walk (place_of_cell places) (length places) e.first)) lt in
    get_or-map (λ (e : Ends). walk (place_of_cell places) (length places) e.first) ends o no_ends [] lt'
    ∙ (ap (λ (e : Ends). walk (place_of_cell places) (length places) e.first) (k.ends_are o)
    ∙ walk_spelled (place_of_cell places) (length places) (first_or (get_or lists o []) None) (get_or lists o [])
    (chain_spells (place_of_cell places) o None (get_or lists o []) (k.chain o))
    (length_once (get_or lists o []) (length places) (k.once o) (k.in_range o))))

pub record Keeps (ends : List Ends) (places : List Place) (lists : List (List ℕ)) : Type 0 where
  pub invariant : KeepsLists ends places
  pub view : lists_in ends places ≡ lists

pub keeps : (ends : List Ends) (places : List Place) (lists : List (List ℕ)) → length ends ≡ length lists → KeepsThese ends places lists → Keeps ends places lists
keeps ends places lists len k =
    let e = lists_in-kept ends places lists len k in record {
      invariant = subst (KeepsThese ends places) (sym e) k;
      view = e;
    }

module _ (ends : List Ends) (places : List Place) (k : KeepsLists ends places) where
  -- each cell stands at most once in all lists together
  pub each_once : HasEachOnce (record { cells = length places; lists = lists_in ends places })
  each_once = record {
    once = λ o. pairs_from_once (list_in ends places o) (k.once o);
    one_owner = λ o p c h j. one_owner (place_of_cell places) (place_of_cell places) (ends_at ends) (ends_at ends) (length places) (length places)
        (list_in ends places) (list_in ends places) k o p c (has-from_Contains c (list_in ends places o) h) (has-from_Contains c (list_in ends places p) j);
    in_range = λ o i d lt. k.in_range o _ (has-from_Contains _ (list_in ends places o) (Contains-get_or (list_in ends places o) i d lt));
  }

-- the owner whose list has a cell
module _ (v : ListsByOwner) (k : HasEachOnce v) where
  pub owner_of-has : (o c : ℕ) → has c (list_of v o) ≡ true → owner_of v c ≡ Some o
  owner_of-has o c h =
      position-only (has c) v.lists [] o (exists_from_has v.lists o c h) h (λ p lt t. k.one_owner p o c (Contains-from_has c (list_of v p) t) (Contains-from_has c (list_of v o) h))

  pub owner_of-none : (c : ℕ) → ((o : ℕ) → has c (list_of v o) ≡ true → ⊥) → owner_of v c ≡ None
  owner_of-none c none = position-none (has c) v.lists [] (λ o lt t. none o t)

-- what contracts see of ends and places
abbrev pub seen : List Ends → List Place → ListsByOwner
seen ends places = record { cells = length places; lists = lists_in ends places }

module _ (ends : List Ends) (places : List Place) (k : KeepsLists ends places) where
  own : (o c : ℕ) → has c (list_in ends places o) ≡ true → (place_of_cell places c).owner ≡ Some o
  own o c h = owner_in (place_of_cell places) (place_of_cell places) (ends_at ends) (ends_at ends) (length places) (length places) (list_in ends places) (list_in ends places) k o c h

  pub seen_owner : (c : ℕ) → (place_of_cell places c).owner ≡ owner_of (seen ends places) c
  seen_owner c = by (place_of_cell places c).owner refl
    where
      by : (s : Option ℕ) → (place_of_cell places c).owner ≡ s → (place_of_cell places c).owner ≡ owner_of (seen ends places) c
      by None e = e ∙ sym (owner_of-none (seen ends places) (each_once ends places k) c (λ o h. let t : Some o ≡ None = sym (own o c h) ∙ e in cc))
      by (Some o) e = e ∙ sym (owner_of-has (seen ends places) (each_once ends places k) o c (k.owned c o e))

  pub seen_next : (c : ℕ) → (place_of_cell places c).next ≡ next_of (seen ends places) c
  seen_next c = by (place_of_cell places c).owner refl
    where
      at : (s : Option ℕ) → (place_of_cell places c).owner ≡ s → option_and_then (λ o. behind c (list_in ends places o)) s ≡ next_of (seen ends places) c
      at s e = ap (λ t. option_and_then (λ o. behind c (list_in ends places o)) t) (sym e ∙ seen_owner c)

      by : (s : Option ℕ) → (place_of_cell places c).owner ≡ s → (place_of_cell places c).next ≡ next_of (seen ends places) c
      by None e = ap (λ (p : Place). p.next) (k.free c e) ∙ at None e
      by (Some o) e = chain_next (place_of_cell places) o None (list_in ends places o) c (k.chain o) (k.owned c o e) ∙ at (Some o) e

-- the same of a value, and of a place that was read
module _ (ends : List Ends) (places : List Place) (v : ListsByOwner) (is : seen ends places ≡ v) (k : KeepsLists ends places) where
  pub read_each_once : HasEachOnce v
  read_each_once = subst HasEachOnce is (each_once ends places k)

  pub read_length : length ends ≡ length v.lists
  read_length = sym (length-map ends _) ∙ ap (λ (w : ListsByOwner). length w.lists) is

  module _ (c : ℕ) (r : Place) (lt : c < v.cells) (at : r ≡ get_or places c r) where
    pub read_place : r ≡ place_of_cell places c
    read_place =
        let lt' : c < length places = subst (λ n. c < n) (sym (ap (λ (w : ListsByOwner). w.cells) is)) lt in
        at ∙ get_or_default places c r place_in_no_list lt'

    pub read_owner : r.owner ≡ owner_of v c
    read_owner = ap (λ (p : Place). p.owner) read_place ∙ (seen_owner ends places k c ∙ ap (λ w. owner_of w c) is)

    pub read_next : r.next ≡ next_of v c
    read_next = ap (λ (p : Place). p.next) read_place ∙ (seen_next ends places k c ∙ ap (λ w. next_of w c) is)
