-- Of more numbers than there are below a bound, two are equal.
use Rattle.std.proofs.Common.{◌≡◌, ℕ, suc, ◌<◌, ◌≤◌, List, [], ◌∷◌, length, All, true, false, eqb, refl, sym, ◌∙◌, subst, arith, get_or, zero-add, ◌⊎◌, inl, inr, ⊎_elim, map}
use Rattle.std.specs.List.{range_with_len, AllByRecursion, IsDistinct}
use Rattle.std.specs.Set.{is_member}
use Rattle.std.specs.Cmp.{unsigned_Decides}
use Rattle.std.proofs.lemmas.Map.Keys.{IsDistinct-cons}
use Rattle.std.proofs.lemmas.Cmp.{nat_eq_equiv}
use Rattle.std.proofs.lemmas.List.Folds.{list_any_at}
use Rattle.std.proofs.lemmas.List.FromFn.{length-range_with_len, get_or-range_with_len, length-map-range_with_len, get_or-map-range_with_len}
use Rattle.std.proofs.lemmas.List.Elements.{All-contains, All-from_get_or}
use Rattle.std.proofs.lemmas.Map.Made.{length-le_from_is_member, is_member-Decides}

in_range : (n q : ℕ) → q < n → is_member eqb (range_with_len 0 n) q ≡ true
in_range n q lt =
    let len : q < length (range_with_len 0 n) = rw (length-range_with_len 0 n) lt in
    list_any_at (eqb q) (range_with_len 0 n) q 0 len (rw (get_or-range_with_len 0 n q 0 lt, zero-add) ((unsigned_Decides q q).1 refl))

below : (n q : ℕ) (xs : List ℕ) → All (λ x. x < n) xs → is_member eqb xs q ≡ true → q < n
below n q xs all m = All-contains (λ x. x < n) xs q all ((is_member-Decides unsigned_Decides xs q).0 m)

-- two places of a list with equal numbers
abbrev pub Again : List ℕ → Type 0
Again xs = (i : ℕ) × (j : ℕ) × (i < j) × (j < length xs) × (get_or xs i 0 ≡ get_or xs j 0)

find_in : (x : ℕ) (ys : List ℕ) → ((k : ℕ) × (k < length ys) × (get_or ys k 0 ≡ x)) ⊎ AllByRecursion (λ y. eqb x y ≡ false) ys
find_in x [] = inr tt
find_in x (y ∷ ys) =
    elim (eqb x y) as (λ b. eqb x y ≡ b → ((k : ℕ) × (k < length (y ∷ ys)) × (get_or (y ∷ ys) k 0 ≡ x)) ⊎ AllByRecursion (λ z. eqb x z ≡ false) (y ∷ ys)) [
      | true ↦ λ e. inl (0, omega arith, sym ((unsigned_Decides x y).0 e))
      | false ↦ λ e. ⊎_elim (λ (f : (k : ℕ) × (k < length ys) × (get_or ys k 0 ≡ x)). inl (suc f.0, omega (arith, f.1), f.2)) (λ (g : AllByRecursion (λ z. eqb x z ≡ false) ys). inr (e, g)) (find_in x ys)
    ] refl

none_distinct : IsDistinct eqb []
unfolding IsDistinct
none_distinct = tt

twice : (xs : List ℕ) → Again xs ⊎ IsDistinct eqb xs
twice [] = inr none_distinct
twice (x ∷ xs) =
    ⊎_elim
    (λ (f : (k : ℕ) × (k < length xs) × (get_or xs k 0 ≡ x)). inl (0, suc f.0, omega arith, omega (arith, f.1), sym f.2))
    (λ (g : AllByRecursion (λ z. eqb x z ≡ false) xs). ⊎_elim
    (λ (r : Again xs). inl (suc r.0, suc r.1, omega (arith, r.2), omega (arith, r.3), r.4))
    (λ (d : IsDistinct eqb xs). inr (IsDistinct-cons eqb x xs g d))
    (twice xs))
    (find_in x xs)

pub again : (n : ℕ) (xs : List ℕ) → All (λ x. x < n) xs → n < length xs → Again xs
again n xs all more =
    ⊎_elim (λ (r : Again xs). r)
    (λ (d : IsDistinct eqb xs).
    let few : length xs ≤ n = rw (← length-range_with_len 0 n) (length-le_from_is_member nat_eq_equiv xs (range_with_len 0 n) d (λ q m. in_range n q (below n q xs all m))) in
    absurd (omega (arith, few, more)))
    (twice xs)

-- of n + 1 values below n two are equal
pub again_of : (n : ℕ) (f : ℕ → ℕ) → ((i : ℕ) → i < suc n → f i < n) → (i : ℕ) × (j : ℕ) × (i < j) × (j < suc n) × (f i ≡ f j)
again_of n f all =
    let xs : List ℕ = map f (range_with_len 0 (suc n)) in
    let len : length xs ≡ suc n = length-map-range_with_len f 0 (suc n) in
    let at : (i : ℕ) → i < suc n → get_or xs i 0 ≡ f i = λ i lt. get_or-map-range_with_len f 0 (suc n) i i 0 lt (zero-add i) in
    let bounded : All (λ x. x < n) xs = All-from_get_or (λ x. x < n) xs 0 (λ i lt. let lt' : i < suc n = omega (arith, len, lt) in subst (λ (v : ℕ). v < n) (sym (at i lt')) (all i lt')) in
    let r : Again xs = again n xs bounded (omega (arith, len)) in
    let jlt : r.1 < suc n = omega (arith, len, r.3) in
    let ilt : r.0 < suc n = omega (arith, r.2, jlt) in
    (r.0, r.1, r.2, jlt, sym (at r.0 ilt) ∙ (r.4 ∙ at r.1 jlt))
