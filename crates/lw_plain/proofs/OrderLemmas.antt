-- Lists of the same words are one, but for the order.
use Rattle.std.proofs.Common.{◌≡◌, ◌≢◌, ◌↔◌, ◌⊎◌, inl, inr, ⊎_elim, ℕ, zero, suc, Bool, true, false, List, [], ◌∷◌, ◌++◌, get_or, Contains, refl, sym, subst, subst₂, arith}
use Rattle.std.specs.List.{remove}
use Rattle.std.specs.List.Sorted.{IsPermutation}
use Rattle.std.specs.Str.{bytes_eq}
use Rattle.std.proofs.lemmas.Cmp.{nat_list_eq_equiv}
use Rattle.std.proofs.lemmas.List.Sorted.{Contains-permutation, IsPermutation-append, IsPermutation-cons, IsPermutation-refl, IsPermutation-remove, IsPermutation-sym, IsPermutation-trans}
use Rattle.std.proofs.lemmas.Map.Keys.{IsDistinct-IsPermutation, IsDistinct-from_apart}
use Rattle.std.proofs.lemmas.Map.Made.{AllPairs-from_IsDistinct}
use Rattle.std.proofs.lemmas.Slice.Eq.{bytes_eq-Decides}
use Rattle.lw_words.specs.Word.{AllDiffer}
use Rattle.lw_plain.specs.Taken.{AreTaken, TakenIsOne}

not_equal : (a b : List ℕ) → a ≢ b → bytes_eq a b ≡ false
not_equal a b other = by (bytes_eq a b) (bytes_eq-Decides a b).0
  where
    by : (r : Bool) → (r ≡ true → a ≡ b) → r ≡ false
    by true told = absurd (other (told refl))
    by false told = refl

differ_moved : (xs ys : List (List ℕ)) → IsPermutation xs ys → AllDiffer xs → AllDiffer ys
differ_moved xs ys moved differ =
    AllPairs-from_IsDistinct bytes_eq-Decides ys
    (IsDistinct-IsPermutation bytes_eq (λ a b. nat_list_eq_equiv.symm a b) xs ys moved
    (IsDistinct-from_apart bytes_eq xs (λ i j d less within. not_equal (get_or xs i d) (get_or xs j d) (differ i j d less within))))

cons_cases : (x w : List ℕ) (xs : List (List ℕ)) → Contains (x ∷ xs) w → (x ≡ w) ⊎ Contains xs w
cons_cases x w xs (zero, lt, is) = inl is
cons_cases x w xs (suc i, lt, is) = inr (i, omega arith, is)

there : (x w : List ℕ) (xs : List (List ℕ)) → Contains xs w → Contains (x ∷ xs) w
there x w xs has = (suc has.0, (let lt = has.1 in omega arith), has.2)

tail_differs : (x : List ℕ) (xs : List (List ℕ)) → AllDiffer (x ∷ xs) → AllDiffer xs
tail_differs x xs differ i j d lt within = differ (suc i) (suc j) d (omega arith) (omega arith)

not_again : (x : List ℕ) (xs : List (List ℕ)) → AllDiffer (x ∷ xs) → ¬ Contains xs x
not_again x xs differ has = differ 0 (suc has.0) x (omega arith) (let lt = has.1 in omega arith) (sym has.2)

pub same_members : (xs ys : List (List ℕ)) → AllDiffer xs → AllDiffer ys → ((w : List ℕ) → Contains xs w ↔ Contains ys w) → IsPermutation xs ys
same_members [] [] one two same = IsPermutation-refl []
same_members [] (y ∷ ys) one two same = let has = (same y).1 (0, omega arith, refl) in absurd (let lt = has.1 in omega arith)
same_members (x ∷ xs) ys one two same =
    let at = (same x).0 (0, omega arith, refl) in
    let rest : List (List ℕ) = remove ys at.0 in
    let moved : IsPermutation ys (x ∷ rest) = IsPermutation-remove ys at.0 x at.1 (sym at.2) in
    let differ : AllDiffer (x ∷ rest) = differ_moved ys (x ∷ rest) moved two in
    let members : (w : List ℕ) → Contains xs w ↔ Contains rest w = λ w. (
      λ has. ⊎_elim (λ (e : x ≡ w). absurd (not_again x xs one (subst (Contains xs) (sym e) has))) (λ (h : Contains rest w). h)
          (cons_cases x w rest (Contains-permutation ys (x ∷ rest) w moved ((same w).0 (there x w xs has)))),
      λ has. ⊎_elim (λ (e : x ≡ w). absurd (not_again x rest differ (subst (Contains rest) (sym e) has))) (λ (h : Contains xs w). h)
          (cons_cases x w xs ((same w).1 (Contains-permutation (x ∷ rest) ys w (IsPermutation-sym ys (x ∷ rest) moved) (there x w rest has)))),
    ) in
    IsPermutation-trans (x ∷ xs) (x ∷ rest) ys (IsPermutation-cons x xs rest (same_members xs rest (tail_differs x xs one) (tail_differs x rest differ) members)) (IsPermutation-sym ys (x ∷ rest) moved)

taken_once : (batch words taken other : List (List ℕ)) → AreTaken batch words taken → AreTaken batch words other → IsPermutation taken other
taken_once batch words taken other one two = same_members taken other one.once two.once (λ w. (λ has. (two.exactly w).1 ((one.exactly w).0 has), λ has. (one.exactly w).1 ((two.exactly w).0 has)))

pub taken_is_one : TakenIsOne
taken_is_one words [] taken other one two = subst₂ IsPermutation (sym one) (sym two) (IsPermutation-refl [])
taken_is_one words (b ∷ bs) taken other (first, rest, are, then, is) (first', rest', are', then', is') =
    subst₂ IsPermutation (sym is) (sym is') (IsPermutation-append first first' rest rest' (taken_once b words first first' are are') (taken_is_one (words ++ b) bs rest rest' then then'))
