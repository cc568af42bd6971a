-- The way by `next`: one step on it, and what it spells.
use Rattle.std.proofs.Common.{◌≡◌, ◌≢◌, ℕ, ◌<◌, ◌≤◌, Bool, true, false, cond, ◌||◌, List, [], ◌∷◌, ◌++◌, length, set, Some, None, Option, refl, sym, ◌∙◌, ap, subst, inl, inr, arith, zero, suc, append_assoc}
use Rattle.std.specs.Option.{option_and_then}
use Rattle.std.proofs.lemmas.Bool.{cases_eq, eq-eqb, ne_eqb, cond-true, cond-false}
use Rattle.std.proofs.lemmas.List.{get_or-set_same, get_or-set_other}
use Rattle.std.proofs.lemmas.List.Quantifiers.{position-Some}
use Rattle.lw_links.specs.Owners.{NextSpellsEachList, OwnerHasTheCell, has, first_in, behind, Spells, list_of, next_of}
use Rattle.lw_links.specs.Chains.{StandsOnce, place_in_no_list, place_of_cell, walk, way_in, given}
use Rattle.lw_links.specs.declared.links.Place.{Place}
use Rattle.lw_links.proofs.CellLemmas.{once_from_pairs, Contains-from_has, has-from_Contains, has_here, has_behind, apart}
use Rattle.lw_links.proofs.ChainLemmas.{walk_spelled}
use Rattle.lw_links.proofs.KeepLemmas.{owner_of-has}

-- a list whose cells stand once is spelled by what stands behind each
spelled_by : (next : ℕ → Option ℕ) (xs : List ℕ) → StandsOnce xs → ((c : ℕ) → has c xs ≡ true → next c ≡ behind c xs) → Spells next (first_in xs) xs
spelled_by next [] h s = refl
spelled_by next (x ∷ xs) h s =
    let e : next x ≡ first_in xs = s x (has_here x xs) ∙ cond-true _ _ _ (eq-eqb x x refl) in (
      refl,
      subst (λ t. Spells next t xs) (sym e) (spelled_by next xs h.1 (λ c t.
          s c (has_behind c x xs t) ∙ cond-false _ _ _ (ne_eqb c x (apart c x xs t h.0)))),
    )

pub next_spells : NextSpellsEachList
next_spells v k owner =
    spelled_by (next_of v) (list_of v owner) (once_from_pairs (list_of v owner) (k.once owner)) (λ c h.
    ap (λ o. option_and_then (λ p. behind c (list_of v p)) o) (owner_of-has v k owner c h))

pub owner_has : OwnerHasTheCell
owner_has v k owner c =
    (λ e. Contains-from_has c (list_of v owner) (position-Some (has c) v.lists owner [] e).1, λ h. owner_of-has v k owner c (has-from_Contains c (list_of v owner) h))

length-walk : (f : ℕ → Place) (n : ℕ) (s : Option ℕ) → length (walk f n s) ≤ n
length-walk f zero s = omega arith
length-walk f (suc n) None = omega arith
length-walk f (suc n) (Some c) = omega (arith, length-walk f n (f c).next)

-- one step on the way
pub record IsStep (f : ℕ → Place) (n : ℕ) (c : ℕ) : Type 0 where
  pub rest : Spells (λ x. (f x).next) (f c).next (walk f n (f c).next)
  pub whole : walk f n (Some c) ≡ c ∷ walk f n (f c).next

pub step_on : (f : ℕ → Place) (n c : ℕ) → Spells (λ x. (f x).next) (Some c) (walk f n (Some c)) → IsStep f n c
step_on f zero c h = let e : Some c ≡ None = h in absurd cc
step_on f (suc n) c h =
    let e : walk f (suc n) (f c).next ≡ walk f n (f c).next =
    walk_spelled f (suc n) (f c).next (walk f n (f c).next) h.1 (omega (arith, length-walk f n (f c).next)) in
    record {
      rest = subst (λ xs. Spells (λ x. (f x).next) (f c).next xs) (sym e) h.1;
      whole = ap (λ xs. c ∷ xs) (sym e);
    }

-- what a place becomes by giving the first cell and then the rest
given_first : (owner c x : ℕ) (xs : List ℕ) (p : Place) → x ≢ c → given owner (c ∷ xs) x p ≡ given owner xs x p
given_first owner c x xs p ne =
    ap (λ (t : Bool). record { owner = cond (t || has x xs) (Some owner) p.owner; previous = p.previous; next = p.next }) (ne_eqb x c ne)

-- on the way by `next`: what is left of it is given yet, and all is then as it is to be
pub record IsOnTheWay (old now : List Place) (owner : ℕ) (start cursor : Option ℕ) : Type 0 where
  pub way : Spells (λ x. (place_of_cell old x).next) cursor (way_in old cursor)
  pub exist : (x : ℕ) → has x (way_in old cursor) ≡ true → x < length old
  pub left : (x : ℕ) → given owner (way_in old cursor) x (place_of_cell now x) ≡ given owner (way_in old start) x (place_of_cell old x)

owned_by : (t : Bool) (o a b : Option ℕ)
    → (let p : Place = record { owner = cond t o o; previous = a; next = b } in p) ≡ (let p : Place = record { owner = o; previous = a; next = b } in p)
owned_by true o a b = refl
owned_by false o a b = refl

given_last : (owner c : ℕ) (xs : List ℕ) (p : Place)
    → given owner xs c (record { owner = Some owner; previous = p.previous; next = p.next }) ≡ given owner (c ∷ xs) c p
given_last owner c xs p =
    owned_by (has c xs) (Some owner) p.previous p.next
    ∙ sym (ap (λ (t : Bool). record { owner = cond (t || has c xs) (Some owner) p.owner; previous = p.previous; next = p.next }) (eq-eqb c c refl))

-- the place of a cell that is given to the owner
abbrev pub given_now : List Place → ℕ → ℕ → List Place
given_now now owner c = set now c (record { owner = Some owner; previous = (place_of_cell now c).previous; next = (place_of_cell now c).next })

module _ (old now : List Place) (owner c : ℕ) (start : Option ℕ) (len : length now ≡ length old) (w : IsOnTheWay old now owner start (Some c)) where
  step : IsStep (place_of_cell old) (length old) c
  step = step_on (place_of_cell old) (length old) c w.way

  on_way : (x : ℕ) → has x (c ∷ way_in old (place_of_cell old c).next) ≡ true → x < length old
  on_way x h = w.exist x (subst (λ xs. has x xs ≡ true) (sym step.whole) h)

  cell_exists : c < length now
  cell_exists = subst (λ n. c < n) (sym len) (on_way c (has_here c (way_in old (place_of_cell old c).next)))

  left_yet : (x : ℕ) → given owner (c ∷ way_in old (place_of_cell old c).next) x (place_of_cell now x) ≡ given owner (way_in old start) x (place_of_cell old x)
  left_yet x = subst (λ xs. given owner xs x (place_of_cell now x) ≡ given owner (way_in old start) x (place_of_cell old x)) step.whole (w.left x)

  here : place_of_cell (given_now now owner c) c ≡ record { owner = Some owner; previous = (place_of_cell now c).previous; next = (place_of_cell now c).next }
  here = get_or-set_same now c _ place_in_no_list cell_exists

  next_is : (place_of_cell (given_now now owner c) c).next ≡ (place_of_cell old c).next
  next_is = ap (λ (p : Place). p.next) here ∙ ap (λ (p : Place). p.next) (left_yet c)

  next_on_the_way : IsOnTheWay old (given_now now owner c) owner start (place_of_cell (given_now now owner c) c).next
  next_on_the_way = subst (IsOnTheWay old (given_now now owner c) owner start) (sym next_is) (record {
    way = step.rest;
    exist = λ x h. on_way x (has_behind x c _ h);
    left = λ x. elim (cases_eq x c) [
      | inl e ↦ subst (λ y. given owner (way_in old (place_of_cell old c).next) y (place_of_cell (given_now now owner c) y) ≡ given owner (way_in old start) y (place_of_cell old y)) (sym e)
          (ap (λ p. given owner (way_in old (place_of_cell old c).next) c p) here ∙ (given_last owner c (way_in old (place_of_cell old c).next) (place_of_cell now c) ∙ left_yet c))
      | inr ne ↦ ap (λ p. given owner (way_in old (place_of_cell old c).next) x p) (get_or-set_other now c x _ place_in_no_list ne)
          ∙ (sym (given_first owner c x (way_in old (place_of_cell old c).next) (place_of_cell now x) ne) ∙ left_yet x)
    ];
  })

  way_shorter : length (way_in old (place_of_cell (given_now now owner c) c).next) < length (way_in old (Some c))
  way_shorter = rw (next_is, step.whole) (omega arith)

-- the same, of a cursor that is at the cell
module _ (old now : List Place) (owner c : ℕ) (start cursor : Option ℕ) (at : cursor ≡ Some c) (len : length now ≡ length old) (w : IsOnTheWay old now owner start cursor) where
  at_cell : IsOnTheWay old now owner start (Some c)
  at_cell = subst (IsOnTheWay old now owner start) at w

  pub exists_at : c < length now
  exists_at = cell_exists old now owner c start len at_cell

  pub next_way : IsOnTheWay old (given_now now owner c) owner start (place_of_cell (given_now now owner c) c).next
  next_way = next_on_the_way old now owner c start len at_cell

  pub shorter_way : length (way_in old (place_of_cell (given_now now owner c) c).next) < length (way_in old cursor)
  shorter_way = rw at (way_shorter old now owner c start len at_cell)

-- on the way by `next`: what was gone over, followed by what is left, is the whole way
pub record IsSpelling (places : List Place) (start at : Option ℕ) (cells : List ℕ) : Type 0 where
  pub way : Spells (λ x. (place_of_cell places x).next) at (way_in places at)
  pub exist : (x : ℕ) → has x (way_in places at) ≡ true → x < length places
  pub whole : cells ++ way_in places at ≡ way_in places start

module _ (places : List Place) (c : ℕ) (start at : Option ℕ) (cells : List ℕ) (is : at ≡ Some c) (w : IsSpelling places start at cells) where
  spelled : IsStep (place_of_cell places) (length places) c
  spelled = step_on (place_of_cell places) (length places) c (subst (λ s. Spells (λ x. (place_of_cell places x).next) s (way_in places s)) is w.way)

  left_is : way_in places at ≡ c ∷ way_in places (place_of_cell places c).next
  left_is = ap (way_in places) is ∙ spelled.whole

  pub spelled_exists : c < length places
  spelled_exists = w.exist c (subst (λ xs. has c xs ≡ true) (sym left_is) (has_here c (way_in places (place_of_cell places c).next)))

  pub spelled_more : (now : List ℕ) → now ≡ cells ++ c ∷ [] → IsSpelling places start (place_of_cell places c).next now
  spelled_more now grown = subst (IsSpelling places start (place_of_cell places c).next) (sym grown) (record {
    way = spelled.rest;
    exist = λ x h. w.exist x (subst (λ xs. has x xs ≡ true) (sym left_is) (has_behind x c _ h));
    whole = append_assoc cells (c ∷ []) (way_in places (place_of_cell places c).next) ∙ (ap (λ xs. cells ++ xs) (sym left_is) ∙ w.whole);
  })

  pub spelled_shorter : length (way_in places (place_of_cell places c).next) < length (way_in places at)
  spelled_shorter = rw left_is (omega arith)
