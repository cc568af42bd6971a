-- The names that are brought: each is one, and they differ.
use Rattle.std.proofs.Common.{◌≡◌, ℕ, zero, suc, ◌<◌, ◌≤◌, List, [], ◌∷◌, get_or, true, refl, ap, sym, ◌∙◌, arith}
use Rattle.std.proofs.lemmas.Bool.{true≢false}
use Rattle.std.proofs.lemmas.List.Elements.{All-nil, All-cons}
use Rattle.lw_words.specs.Word.{IsName, AllDiffer}
use Rattle.lw_names.specs.Naming.{MayBring}
use Rattle.lw_sessions_tests.specs.TestNames.{pair_names, turned_names}

is_letter : (b : ℕ) → 97 ≤ b → b ≤ 122 → IsName (b ∷ [])
is_letter b low high = record { some = omega arith; short = omega arith; printable = All-cons (λ x. (33 ≤ x) × (x ≤ 126)) b [] (omega (arith, low), omega (arith, high)) (All-nil (λ x. (33 ≤ x) × (x ≤ 126))) }

pair_differs : AllDiffer pair_names
pair_differs i j d before within same =
    let one : i ≡ 0 = omega (arith, before, within) in
    let other : j ≡ 1 = omega (arith, before, within) in
    let z : get_or pair_names i d ≡ 122 ∷ [] = ap (λ (n : ℕ). get_or pair_names n d) one in
    let a : get_or pair_names j d ≡ 97 ∷ [] = ap (λ (n : ℕ). get_or pair_names n d) other in
    let e : 122 ≡ 97 = ap (λ (l : List ℕ). get_or l 0 0) (sym z ∙ (same ∙ a)) in
    absurd (omega (arith, e))

pub may_bring_pair : MayBring true [] pair_names (0 ∷ 1 ∷ [])
may_bring_pair = record {
  numbers = All-cons (λ y. y < 2) 0 (1 ∷ []) (omega arith) (All-cons (λ y. y < 2) 1 [] (omega arith) (All-nil (λ y. y < 2)));
  new = refl;
  each = All-cons IsName (122 ∷ []) ((97 ∷ []) ∷ []) (is_letter 122 (omega arith) (omega arith)) (All-cons IsName (97 ∷ []) [] (is_letter 97 (omega arith) (omega arith)) (All-nil IsName));
  differ = pair_differs;
  declared = λ e. absurd (true≢false e);
  few = λ e. omega arith;
}

turned_differ : AllDiffer turned_names
turned_differ zero (suc zero) d before within same = let e : 98 ≡ 99 = ap (λ (l : List ℕ). get_or l 0 0) same in absurd (omega (arith, e))
turned_differ zero (suc (suc zero)) d before within same = let e : 98 ≡ 97 = ap (λ (l : List ℕ). get_or l 0 0) same in absurd (omega (arith, e))
turned_differ (suc zero) (suc (suc zero)) d before within same = let e : 99 ≡ 97 = ap (λ (l : List ℕ). get_or l 0 0) same in absurd (omega (arith, e))
turned_differ zero zero d before within same = absurd (omega (arith, before))
turned_differ (suc zero) zero d before within same = absurd (omega (arith, before))
turned_differ (suc zero) (suc zero) d before within same = absurd (omega (arith, before))
turned_differ (suc (suc i)) zero d before within same = absurd (omega (arith, before))
turned_differ (suc (suc i)) (suc zero) d before within same = absurd (omega (arith, before))
turned_differ (suc (suc i)) (suc (suc zero)) d before within same = absurd (omega (arith, before))
turned_differ i (suc (suc (suc j))) d before within same = absurd (omega (arith, within))

pub may_bring_turned : MayBring true [] turned_names (0 ∷ 1 ∷ 2 ∷ [])
may_bring_turned = record {
  numbers = All-cons (λ y. y < 3) 0 (1 ∷ 2 ∷ []) (omega arith) (All-cons (λ y. y < 3) 1 (2 ∷ []) (omega arith) (All-cons (λ y. y < 3) 2 [] (omega arith) (All-nil (λ y. y < 3))));
  new = refl;
  each = All-cons IsName (98 ∷ []) ((99 ∷ []) ∷ (97 ∷ []) ∷ []) (is_letter 98 (omega arith) (omega arith))
      (All-cons IsName (99 ∷ []) ((97 ∷ []) ∷ []) (is_letter 99 (omega arith) (omega arith))
      (All-cons IsName (97 ∷ []) [] (is_letter 97 (omega arith) (omega arith)) (All-nil IsName)));
  differ = turned_differ;
  declared = λ e. absurd (true≢false e);
  few = λ e. omega arith;
}
