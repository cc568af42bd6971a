-- Which cells a list has, and which owner's list has a cell.
use Rattle.std.proofs.Common.{◌≡◌, ◌≢◌, ℕ, ◌<◌, ◌≤◌, ◌⊎◌, Bool, true, false, cond, nat_eq, nat_lt, List, [], ◌∷◌, ◌++◌, length, AllPairs, Contains, position, get_or, Some, None, refl, sym, ◌∙◌, ap, subst, inl, inr, arith}
use Rattle.std.specs.List.{IsDistinct, AllByRecursion, position_or_len}
use Rattle.std.proofs.lemmas.Bool.{cases_eq, cases_lt, eqb-true, eqb-false, eq-eqb, ne_eqb, or_cases, or_parts, or_from, or_left, or_right, both_ways, cond-true, cond-false, lt-ltb, le-ltb, false_from_ne_true}
use Rattle.std.proofs.lemmas.Map.Keys.{IsDistinct-cons, IsDistinct-head, IsDistinct-tail}
use Rattle.std.proofs.lemmas.Map.Made.{AllPairs-from_IsDistinct, IsDistinct-from_AllPairs}
use Rattle.std.proofs.lemmas.Map.Views.{Contains-from_any, list_any-from_Contains}
use Rattle.std.proofs.lemmas.Bool.Decides.{Decides-eqb}
use Rattle.std.proofs.lemmas.Cmp.{nat_eq_equiv}
use Rattle.std.proofs.lemmas.Map.Steps.{length-le_from_distinct_below}
use Rattle.std.proofs.lemmas.List.{get_or_past}
use Rattle.std.proofs.lemmas.List.Sums.{position_or_len_is}
use Rattle.lw_links.specs.Chains.{StandsOnce}
use Rattle.lw_links.specs.Owners.{has, without}

pub has_here : (x : ℕ) (xs : List ℕ) → has x (x ∷ xs) ≡ true
has_here x xs = or_left _ _ (eq-eqb x x refl)

pub has_at : (c x : ℕ) (xs : List ℕ) → c ≡ x → has c (x ∷ xs) ≡ true
has_at c x xs e = or_left _ _ (eq-eqb c x e)

pub has_behind : (c x : ℕ) (xs : List ℕ) → has c xs ≡ true → has c (x ∷ xs) ≡ true
has_behind c x xs h = or_right _ _ h

pub has_cases : (c x : ℕ) (xs : List ℕ) → has c (x ∷ xs) ≡ true → (c ≡ x) ⊎ (has c xs ≡ true)
has_cases c x xs h = elim (or_cases _ _ h) [ inl e ↦ inl (eqb-true c x e) | inr e ↦ inr e ]

-- a cell that the list lacks is not its first
pub lacks_first : (c x : ℕ) (xs : List ℕ) → has c (x ∷ xs) ≡ false → c ≢ x
lacks_first c x xs h = eqb-false c x (or_parts _ _ h).0

pub lacks_rest : (c x : ℕ) (xs : List ℕ) → has c (x ∷ xs) ≡ false → has c xs ≡ false
lacks_rest c x xs h = (or_parts _ _ h).1

pub lacks_both : (c x : ℕ) (xs : List ℕ) → c ≢ x → has c xs ≡ false → has c (x ∷ xs) ≡ false
lacks_both c x xs n h = or_from _ _ (ne_eqb c x n) h

-- cells that a list has and lacks are two
pub apart : (c d : ℕ) (xs : List ℕ) → has c xs ≡ true → has d xs ≡ false → c ≢ d
apart c d xs h k e = both_ways (has d xs) k (subst (λ v. has v xs ≡ true) e h)

pub has_left : (c : ℕ) (xs ys : List ℕ) → has c xs ≡ true → has c (xs ++ ys) ≡ true
has_left c [] ys h = absurd (both_ways false refl h)
has_left c (x ∷ xs) ys h =
    elim (has_cases c x xs h) [
      | inl e ↦ has_at c x (xs ++ ys) e
      | inr e ↦ has_behind c x (xs ++ ys) (has_left c xs ys e)
    ]

pub has_right : (c : ℕ) (xs ys : List ℕ) → has c ys ≡ true → has c (xs ++ ys) ≡ true
has_right c [] ys h = h
has_right c (x ∷ xs) ys h = has_behind c x (xs ++ ys) (has_right c xs ys h)

pub has_either : (c : ℕ) (xs ys : List ℕ) → has c (xs ++ ys) ≡ true → (has c xs ≡ true) ⊎ (has c ys ≡ true)
has_either c [] ys h = inr h
has_either c (x ∷ xs) ys h =
    elim (has_cases c x (xs ++ ys) h) [
      | inl e ↦ inl (has_at c x xs e)
      | inr e ↦ elim (has_either c xs ys e) [ inl k ↦ inl (has_behind c x xs k) | inr k ↦ inr k ]
    ]

pub lacks_left : (c : ℕ) (xs ys : List ℕ) → has c (xs ++ ys) ≡ false → has c xs ≡ false
lacks_left c xs ys h = false_from_ne_true (has c xs) (λ e. both_ways _ h (has_left c xs ys e))

pub lacks_right : (c : ℕ) (xs ys : List ℕ) → has c (xs ++ ys) ≡ false → has c ys ≡ false
lacks_right c xs ys h = false_from_ne_true (has c ys) (λ e. both_ways _ h (has_right c xs ys e))

pub lacks_append : (c : ℕ) (xs ys : List ℕ) → has c xs ≡ false → has c ys ≡ false → has c (xs ++ ys) ≡ false
lacks_append c xs ys h k =
    false_from_ne_true (has c (xs ++ ys)) (λ e. elim (has_either c xs ys e) [ inl l ↦ both_ways _ h l | inr r ↦ both_ways _ k r ])

-- two lists whose cells stand once, and no cell in both
pub record StandApart (xs ys : List ℕ) : Type 0 where
  pub front : StandsOnce xs
  pub back : StandsOnce ys
  pub apart : (c : ℕ) → has c xs ≡ true → has c ys ≡ false

pub apart_from_once : (xs ys : List ℕ) → StandsOnce (xs ++ ys) → StandApart xs ys
apart_from_once [] ys h = record { front = tt; back = h; apart = λ c e. absurd (both_ways false refl e) }
apart_from_once (x ∷ xs) ys h =
    let k = apart_from_once xs ys h.1 in record {
      front = (lacks_left x xs ys h.0, k.front);
      back = k.back;
      apart = λ c e. elim (has_cases c x xs e) [ inl i ↦ subst (λ v. has v ys ≡ false) (sym i) (lacks_right x xs ys h.0) | inr i ↦ k.apart c i ];
    }

pub once_from_apart : (xs ys : List ℕ) → StandsOnce xs → StandsOnce ys → ((c : ℕ) → has c xs ≡ true → has c ys ≡ false) → StandsOnce (xs ++ ys)
once_from_apart [] ys h k s = k
once_from_apart (x ∷ xs) ys h k s =
    (lacks_append x xs ys h.0 (s x (has_here x xs)), once_from_apart xs ys h.1 k (λ c e. s c (has_behind c x xs e)))

all_others : (x : ℕ) (xs : List ℕ) → has x xs ≡ false → AllByRecursion (λ y. nat_eq x y ≡ false) xs
all_others x [] h = tt
all_others x (y ∷ ys) h = (ne_eqb x y (lacks_first x y ys h), all_others x ys (lacks_rest x y ys h))

distinct_from_once : (xs : List ℕ) → StandsOnce xs → IsDistinct nat_eq xs
unfolding IsDistinct
distinct_from_once [] h = tt
distinct_from_once (x ∷ xs) h = IsDistinct-cons nat_eq x xs (all_others x xs h.0) (distinct_from_once xs h.1)

none_other : (x : ℕ) (xs : List ℕ) → AllByRecursion (λ y. nat_eq x y ≡ false) xs → has x xs ≡ false
none_other x [] h = refl
none_other x (y ∷ ys) h = or_from _ _ h.0 (none_other x ys h.1)

once_from_distinct : (xs : List ℕ) → IsDistinct nat_eq xs → StandsOnce xs
once_from_distinct [] h = tt
once_from_distinct (x ∷ xs) h = (none_other x xs (IsDistinct-head nat_eq x xs h), once_from_distinct xs (IsDistinct-tail nat_eq x xs h))

-- the same in std's words
pub pairs_from_once : (xs : List ℕ) → StandsOnce xs → AllPairs (λ a b. a ≢ b) xs
pairs_from_once xs h = AllPairs-from_IsDistinct Decides-eqb xs (distinct_from_once xs h)

pub once_from_pairs : (xs : List ℕ) → AllPairs (λ a b. a ≢ b) xs → StandsOnce xs
once_from_pairs xs h = once_from_distinct xs (IsDistinct-from_AllPairs Decides-eqb xs h)

pub Contains-from_has : (c : ℕ) (xs : List ℕ) → has c xs ≡ true → Contains xs c
Contains-from_has c xs h = Contains-from_any eqb-true c xs h

pub has-from_Contains : (c : ℕ) (xs : List ℕ) → Contains xs c → has c xs ≡ true
has-from_Contains c xs h = list_any-from_Contains nat_eq_equiv c xs h

-- a list has no more cells than there are
pub length_once : (xs : List ℕ) (n : ℕ) → StandsOnce xs → ((c : ℕ) → has c xs ≡ true → c < n) → length xs ≤ n
length_once xs n h k = length-le_from_distinct_below xs n (distinct_from_once xs h) k

-- a list that has a cell is split there
pub split_at_cell : (c : ℕ) (xs : List ℕ) → has c xs ≡ true → (front : List ℕ) × ((back : List ℕ) × (xs ≡ front ++ c ∷ back))
split_at_cell c [] h = absurd (both_ways false refl h)
split_at_cell c (x ∷ xs) h =
    elim (has_cases c x xs h) [
      | inl e ↦ ([], (xs, ap (λ v. v ∷ xs) (sym e)))
      | inr e ↦ let s = split_at_cell c xs e in (x ∷ s.0, (s.1.0, ap (λ v. x ∷ v) s.1.1))
    ]

pub without_none : (c : ℕ) (xs : List ℕ) → has c xs ≡ false → without c xs ≡ xs
without_none c [] h = refl
without_none c (x ∷ xs) h =
    rw (ne_eqb c x (lacks_first c x xs h)) (ap (λ v. x ∷ v) (without_none c xs (lacks_rest c x xs h)))

-- a cell that stands once between two parts, taken out
pub without_middle : (c : ℕ) (xs ys : List ℕ) → has c xs ≡ false → has c ys ≡ false → without c (xs ++ c ∷ ys) ≡ xs ++ ys
without_middle c [] ys h k = rw (eq-eqb c c refl) (without_none c ys k)
without_middle c (x ∷ xs) ys h k =
    rw (ne_eqb c x (lacks_first c x xs h)) (ap (λ v. x ∷ v) (without_middle c xs ys (lacks_rest c x xs h) k))

module _ {X : Type 0} (p : X → Bool) (xs : List X) (d : X) where
  -- where one alone passes, its place is the position
  pub position-only : (o : ℕ) → o < length xs → p (get_or xs o d) ≡ true → ((k : ℕ) → k < length xs → p (get_or xs k d) ≡ true → k ≡ o) → position p xs ≡ Some o
  position-only o lt at only =
      let e : position_or_len p xs ≡ o = position_or_len_is p xs o d (omega arith)
      (λ k below. false_from_ne_true (p (get_or xs k d)) (λ t. absurd (let same : k ≡ o = only k (omega arith) t in omega arith))) (λ _. at) in
      let within : nat_lt o (length xs) ≡ true = lt-ltb o (length xs) lt in
      subst (λ n. cond (nat_lt n (length xs)) (Some n) None ≡ Some o) (sym e) (cond-true _ _ _ within)

  -- where none passes there is no position
  pub position-none : ((k : ℕ) → k < length xs → p (get_or xs k d) ≡ true → ⊥) → position p xs ≡ None
  position-none none =
      let e : position_or_len p xs ≡ length xs = position_or_len_is p xs (length xs) d (omega arith)
      (λ k below. false_from_ne_true (p (get_or xs k d)) (none k below)) (λ l. absurd (omega arith)) in
      subst (λ n. cond (nat_lt n (length xs)) (Some n) None ≡ None) (sym e) (cond-false _ _ _ (le-ltb (length xs) (length xs) (omega arith)))

-- an owner whose list has a cell exists
pub exists_from_has : (lists : List (List ℕ)) (o c : ℕ) → has c (get_or lists o []) ≡ true → o < length lists
exists_from_has lists o c h =
    elim (cases_lt o (length lists)) [
      | inl lt ↦ lt
      | inr le ↦ absurd (both_ways false refl (subst (λ xs. has c xs ≡ true) (get_or_past lists o [] le) h))
    ]

pub has_without : (c d : ℕ) (xs : List ℕ) → d ≢ c → has d xs ≡ true → has d (without c xs) ≡ true
has_without c d [] n h = h
has_without c d (x ∷ xs) n h =
    elim (has_cases d x xs h) [
      | inl e ↦ rw (ne_eqb c x (λ k. n (e ∙ sym k))) (has_at d x (without c xs) e)
      | inr e ↦ elim (cases_eq c x) [
        | inl k ↦ rw (eq-eqb c x k) (has_without c d xs n e)
        | inr k ↦ rw (ne_eqb c x k) (has_behind d x (without c xs) (has_without c d xs n e))
      ]
    ]
