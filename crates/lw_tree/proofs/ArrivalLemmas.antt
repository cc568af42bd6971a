-- The lists of transitions, call by call.
use Rattle.std.proofs.Common.{◌≡◌, ◌≢◌, ℕ, ◌+◌, ◌≤◌, true, false, true≢false, ◌==◌, if◌then◌else◌, List, [], ◌∷◌, get_or, Contains, Some, None, is_some, option_map, refl, sym, ◌∙◌, ap, subst, inl, inr, arith}
use Rattle.std.specs.List.{AllPairs}
use Rattle.std.specs.List.Sorted.{IsPermutation, IsSorted}
use Rattle.std.specs.Ordering.{nat_cmp}
use Rattle.std.proofs.lemmas.Bool.{cases_eq, eq-eqb, ne_eqb, cond-true, cond-false}
use Rattle.std.proofs.lemmas.Bool.Decides.{Decides-eqb}
use Rattle.std.proofs.lemmas.List.{length-set}
use Rattle.std.proofs.lemmas.List.Elements.{Contains-get_or}
use Rattle.std.proofs.lemmas.List.Sorted.{IsPermutation-sym, Contains-permutation, IsNonDecreasingBy-from_sort}
use Rattle.std.proofs.lemmas.Map.Keys.{IsDistinct-IsPermutation}
use Rattle.std.proofs.lemmas.Map.Made.{AllPairs-from_IsDistinct, IsDistinct-from_AllPairs}
use Rattle.lw_tree.specs.Tree.{place_at}
use Rattle.lw_tree.specs.declared.nodes.Node.{Node}
use Rattle.lw_tree.specs.declared.transitions.Place.{Place}
use Rattle.lw_links.specs.Owners.{ListsByOwner, HasEachOnce, first_in, first_of, list_of, owner_of, pushed, moved}
use Rattle.lw_links.proofs.WayLemmas.{owner_has}
use Rattle.lw_tree.specs.bodies.Arrivals.{IsSize, Added, IsListing, HasSplitList, HasSplitState, HasState, HasFilled, list_of_place}

pub size_pushed : (v : ListsByOwner) (o c : ℕ) → IsSize v (pushed v o c)
size_pushed v o c = record { owners = length-set v.lists o _; cells = refl }

size_moved : (v : ListsByOwner) (giver taker : ℕ) → IsSize v (moved v giver taker)
size_moved v giver taker = record { owners = length-set _ giver _ ∙ length-set v.lists taker _; cells = refl }

pub same_size : (v : ListsByOwner) → IsSize v v
same_size v = record { owners = refl; cells = refl }

pub size_then : (u v w : ListsByOwner) → IsSize u v → IsSize v w → IsSize u w
size_then u v w a b = record { owners = b.owners ∙ a.owners; cells = b.cells ∙ a.cells }

-- transitions are added one after another
pub added_none : (v : ListsByOwner) (k : ℕ) → Added v v k k
added_none v k = record {
  size = same_size v;
  new = λ j ge lt. absurd (omega (arith, ge, lt));
  below = λ j lt. refl;
  above = λ j ge. refl;
}

pub added_more : (before now after : ListsByOwner) (first k : ℕ) → first ≤ k → Added before now first k → after ≡ pushed now 0 k
    → ((j : ℕ) → owner_of after j ≡ (if j == k then Some 0 else owner_of now j)) → Added before after first (k + 1)
added_more before now after first k le added is owner =
    record {
      size = size_then before now after added.size (subst (IsSize now) (sym is) (size_pushed now 0 k));
      new = λ j ge lt. elim (cases_eq j k) [
        | inl e ↦ owner j ∙ cond-true _ _ _ (eq-eqb j k e)
        | inr ne ↦ other j ne ∙ added.new j ge (omega (arith, lt, ne))
      ];
      below = λ j lt. other j (λ e. omega (arith, e, lt, le)) ∙ added.below j lt;
      above = λ j ge. other j (λ e. omega (arith, e, ge)) ∙ added.above j (omega (arith, ge));
    }
  where
    other : (j : ℕ) → j ≢ k → owner_of after j ≡ owner_of now j
    other j ne = owner j ∙ cond-false _ _ _ (ne_eqb j k ne)

-- what is read off list 0
first_cell : (xs : List ℕ) → is_some (first_in xs) ≡ true → (k : ℕ) × Contains xs k
first_cell [] is = absurd (true≢false (sym is))
first_cell (x ∷ xs) is = (x, Contains-get_or (x ∷ xs) 0 x (omega arith))

no_cell : (xs : List ℕ) → is_some (first_in xs) ≡ false → (k : ℕ) → Contains xs k → ⊥
no_cell [] is k has = absurd (omega (arith, has.1))
no_cell (x ∷ xs) is k has = true≢false is

pub open_some : (v : ListsByOwner) → HasEachOnce v → is_some (first_of v 0) ≡ true → (k : ℕ) × (owner_of v k ≡ Some 0)
open_some v h is = let c = first_cell (list_of v 0) is in (c.0, (owner_has v h 0 c.0).1 c.1)

pub open_none : (v : ListsByOwner) → HasEachOnce v → is_some (first_of v 0) ≡ false → (k : ℕ) → owner_of v k ≡ Some 0 → ⊥
open_none v h is k e = no_cell (list_of v 0) is k ((owner_has v h 0 k).0 e)

pub sorted_listing : (v : ListsByOwner) (xs ys : List ℕ) → HasEachOnce v → xs ≡ list_of v 0 → IsPermutation xs ys → IsSorted nat_cmp ys → IsListing v ys
sorted_listing v xs ys h is moves sorted =
    record {
      only = λ i lt. (owner_has v h 0 (get_or ys i 0)).1 (subst (λ (l : List ℕ). Contains l (get_or ys i 0)) is (Contains-permutation ys xs (get_or ys i 0) (IsPermutation-sym xs ys moves) (Contains-get_or ys i 0 lt)));
      each = λ k e. Contains-permutation xs ys k moves (subst (λ (l : List ℕ). Contains l k) (sym is) ((owner_has v h 0 k).0 e));
      rising = λ i j lt inside.
          let le : get_or ys i 0 ≤ get_or ys j 0 = IsNonDecreasingBy-from_sort (λ x. x) ys sorted i j 0 (omega (arith, lt)) inside in
          let ne : get_or ys i 0 ≢ get_or ys j 0 = apart i j 0 lt inside in
          omega (arith, le, ne);
    }
  where
    apart : AllPairs (λ a b. a ≢ b) ys
    apart = AllPairs-from_IsDistinct Decides-eqb ys (IsDistinct-IsPermutation _ flips xs ys moves (IsDistinct-from_AllPairs Decides-eqb xs (subst (AllPairs (λ a b. a ≢ b)) (sym is) (h.once 0))))
      where
        flips : (a b : ℕ) → (a == b) ≡ (b == a)
        flips a b = elim (cases_eq a b) [
          | inl e ↦ eq-eqb a b e ∙ sym (eq-eqb b a (sym e))
          | inr ne ↦ ne_eqb a b ne ∙ sym (ne_eqb b a (λ e. ne (sym e)))
        ]

pub added_all : (before now : ListsByOwner) (first k to : ℕ) → k ≡ to → Added before now first k → Added before now first to
added_all before now first k to e added = subst (Added before now first) e added

-- a state that was reached by no transition has its list taken apart
pub split_first : (v w : ListsByOwner) (q edge : ℕ) → w ≡ moved v (q + 1) 0 → ((k : ℕ) → owner_of w k ≡ option_map (λ o. if o == q + 1 then 0 else o) (owner_of v k)) → q ≤ 0 → HasSplitList v w q edge
split_first v w q edge is owner le = record {
  middle = w;
  reopened = record { size = subst (IsSize v) (sym is) (size_moved v (q + 1) 0); owner = owner };
  first = λ e. refl;
  later = λ some. absurd (omega (arith, some, le));
}

-- transitions are put into their lists one after another
module _ (before : ListsByOwner) (node : ℕ → Node) (places : List Place) where
  pub filled_none : ((k : ℕ) → owner_of before k ≡ None) → HasFilled before before node places 0
  filled_none free = record { size = same_size before; listed = λ k lt. absurd (omega (arith, lt)); free = λ k ge. free k }

  pub filled_more : (now after : ListsByOwner) (list k : ℕ) → HasFilled before now node places k → list ≡ list_of_place node (place_at places k) → after ≡ pushed now list k
      → ((j : ℕ) → owner_of after j ≡ (if j == k then Some list else owner_of now j)) → HasFilled before after node places (k + 1)
  filled_more now after list k filled here is owner =
      record {
        size = size_then before now after filled.size (subst (IsSize now) (sym is) (size_pushed now list k));
        listed = λ j lt. elim (cases_eq j k) [
          | inl e ↦ owner j ∙ (cond-true _ _ _ (eq-eqb j k e) ∙ (ap Some here ∙ ap (λ (i : ℕ). Some (list_of_place node (place_at places i))) (sym e)))
          | inr ne ↦ other j ne ∙ filled.listed j (omega (arith, lt, ne))
        ];
        free = λ j ge. other j (λ e. omega (arith, e, ge)) ∙ filled.free j (omega (arith, ge));
      }
    where
      other : (j : ℕ) → j ≢ k → owner_of after j ≡ owner_of now j
      other j ne = owner j ∙ cond-false _ _ _ (ne_eqb j k ne)

-- the numbers of a call are those of a tree
pub has_state_at : (v w : ListsByOwner) {number state first letters n q from a : ℕ} → number ≡ n → state ≡ q → first ≡ from → letters ≡ a → HasState v w number (state + 1) first (first + letters) → HasState v w n (q + 1) from (from + a)
has_state_at v w number state first letters h = record { middle = h.middle; filed = rw (← number, ← state) h.filed; added = rw (← first, ← letters) h.added }

pub split_state_at : (v w : ListsByOwner) (target : ℕ) {edge number state first letters e n q from a : ℕ} → edge ≡ e → number ≡ n → state ≡ q → first ≡ from → letters ≡ a → HasSplitState v w target edge number (state + 1) first (first + letters) → HasSplitState v w target e n (q + 1) from (from + a)
split_state_at v w target {number = number} {state = state} {first = first} {letters = letters} reached at new from all h =
    record {
      halfway = h.halfway;
      split = subst (HasSplitList v h.halfway target) reached h.split;
      pushed = has_state_at h.halfway w at new from all h.pushed;
    }
