-- Marks that are set one by one, and the numbers that are marked.
use Rattle.std.proofs.Common.{◌≡◌, ◌↔◌, ℕ, ◌+◌, ◌<◌, ◌≤◌, ◌⊎◌, inl, inr, ⊎_elim, Bool, true, false, cond, List, [], ◌∷◌, ◌++◌, length, get_or, set, replicate, take, All, Contains, refl, sym, ap, ◌∙◌, subst, arith, append-nil}
use Rattle.std.specs.List.{filter, range_with_len}
use Rattle.std.specs.List.Sorted.{IsStrictlyIncreasing}
use Rattle.std.proofs.lemmas.Bool.{true≢false, cases_eq, cases_lt, cond-true, cond-false}
use Rattle.std.proofs.lemmas.List.{length-set, get_or-set_same, get_or-set_other, get_or_past, get_or-replicate, length-replicate, take_more, take_all, map-id}
use Rattle.std.proofs.lemmas.List.Elements.{All-contains, Contains-append_left, Contains-push, Contains-push_cases, filter-append, filter_passes}
use Rattle.std.proofs.lemmas.List.FromFn.{length-range_with_len, get_or-range_with_len, map-range_with_len_more}
use Rattle.std.proofs.lemmas.List.Kept.{IsStrictlyIncreasing-filter}
use Rattle.lw_wp.specs.bodies.HTables.{AreMarked, IsMarked, marked_numbers}
use Rattle.lw_wp.proofs.FilterLemmas.{stays}

-- a place that is marked is there
pub marked_within : (marks : List Bool) (i : ℕ) → IsMarked marks i → i < length marks
marked_within marks i t =
    ⊎_elim (λ (lt : i < length marks). lt) (λ (ge : length marks ≤ i). absurd (true≢false (sym t ∙ get_or_past marks i false ge))) (cases_lt i (length marks))

-- one mark
mark_set : (marks : List Bool) (n i : ℕ) → n < length marks → IsMarked (set marks n true) i ↔ (IsMarked marks i ⊎ (n ≡ i))
mark_set marks n i lt =
    let here : IsMarked (set marks n true) n = get_or-set_same marks n true false lt in
    let same : i ≡ n → IsMarked (set marks n true) i = λ e. subst (IsMarked (set marks n true)) (sym e) here in (
      λ t. ⊎_elim
          (λ (e : i ≡ n). inr (sym e))
          (λ (o : i ≡ n → ⊥). inl (sym (get_or-set_other marks n i true false o) ∙ t))
          (cases_eq i n),
      λ s. ⊎_elim
          (λ (t : IsMarked marks i). ⊎_elim same (λ (o : i ≡ n → ⊥). get_or-set_other marks n i true false o ∙ t) (cases_eq i n))
          (λ (e : n ≡ i). same (sym e))
          s,
    )

module _ (old now : List Bool) (P Q : ℕ → Type 0) (so_far : AreMarked old now P) where
  pub marks_same : ((i : ℕ) → Q i ↔ P i) → AreMarked old now Q
  marks_same same = record {
    long = so_far.long;
    each = λ i. (
      λ t. ⊎_elim inl (λ (p : P i). inr ((same i).1 p)) ((so_far.each i).0 t),
      λ s. (so_far.each i).1 (⊎_elim inl (λ (x : Q i). inr ((same i).0 x)) s),
    );
  }

  pub marks_one : (n : ℕ) (next : List Bool) → n < length now → next ≡ set now n true → ((i : ℕ) → Q i ↔ (P i ⊎ (n ≡ i))) → AreMarked old next Q
  marks_one n next lt is more =
      subst (λ (marks : List Bool). AreMarked old marks Q) (sym is)
      (record {
        long = length-set now n true ∙ so_far.long;
        each = λ i. (
          λ t. ⊎_elim
              (λ (m : IsMarked now i). ⊎_elim inl (λ (p : P i). inr ((more i).1 (inl p))) ((so_far.each i).0 m))
              (λ (e : n ≡ i). inr ((more i).1 (inr e)))
              ((mark_set now n i lt).0 t),
          λ s. (mark_set now n i lt).1 (⊎_elim
              (λ (m : IsMarked old i). inl ((so_far.each i).1 (inl m)))
              (λ (x : Q i). ⊎_elim (λ (p : P i). inl ((so_far.each i).1 (inr p))) inr ((more i).0 x))
              s),
        );
      })

-- an element of the first of a list, one more of them
pub among_more : (numbers : List ℕ) (index i : ℕ) → index < length numbers → Contains (take (index + 1) numbers) i ↔ (Contains (take index numbers) i ⊎ (get_or numbers index 0 ≡ i))
among_more numbers index i lt =
    let n : ℕ = get_or numbers index 0 in
    let e : take (index + 1) numbers ≡ take index numbers ++ n ∷ [] = take_more numbers index 0 lt in (
      λ at. Contains-push_cases (take index numbers) n i (subst (λ (l : List ℕ). Contains l i) e at),
      λ s. subst (λ (l : List ℕ). Contains l i) (sym e) (⊎_elim
          (Contains-append_left (take index numbers) (n ∷ []) i)
          (λ (same : n ≡ i). subst (Contains (take index numbers ++ n ∷ [])) same (Contains-push (take index numbers) n))
          s),
    )

pub none_marked : (marks : List Bool) (numbers : List ℕ) → AreMarked marks marks (Contains (take 0 numbers))
none_marked marks numbers = record { long = refl; each = λ i. (inl, λ s. ⊎_elim (λ (t : IsMarked marks i). t) (λ (at : Contains (take 0 numbers) i). absurd (let l = at.1 in omega (arith, l))) s) }

pub marked_more : (old now next : List Bool) (numbers : List ℕ) (index : ℕ) → AreMarked old now (Contains (take index numbers)) → index < length numbers → get_or numbers index 0 < length now
    → next ≡ set now (get_or numbers index 0) true → AreMarked old next (Contains (take (index + 1) numbers))
marked_more old now next numbers index so_far lt within is =
    marks_one old now (Contains (take index numbers)) (Contains (take (index + 1) numbers)) so_far (get_or numbers index 0) next within is (λ i. among_more numbers index i lt)

pub marked_all : (old now : List Bool) (numbers : List ℕ) (index : ℕ) → AreMarked old now (Contains (take index numbers)) → length numbers ≤ index → AreMarked old now (Contains numbers)
marked_all old now numbers index so_far ge = subst (λ (l : List ℕ). AreMarked old now (Contains l)) (take_all index numbers ge) so_far

-- the numbers below n, in order
pub range_more : (n : ℕ) → range_with_len 0 (n + 1) ≡ range_with_len 0 n ++ n ∷ []
range_more n =
    sym (map-id (range_with_len 0 (n + 1))) ∙ (map-range_with_len_more (λ (k : ℕ). k) 0 n n (omega arith) ∙ ap (λ (l : List ℕ). l ++ n ∷ []) (map-id (range_with_len 0 n)))

pub contains_range : (n i : ℕ) → i < n → Contains (range_with_len 0 n) i
contains_range n i lt = (i, let l = length-range_with_len 0 n in omega (arith, l, lt), let e = get_or-range_with_len 0 n i i lt in omega (arith, e))

pub range_below : (n : ℕ) → All (λ i. i < n) (range_with_len 0 n)
range_below n k d lt = let l = length-range_with_len 0 n in let e = get_or-range_with_len 0 n k d (omega (arith, l, lt)) in omega (arith, l, lt, e)

range_increases : (n : ℕ) → IsStrictlyIncreasing (range_with_len 0 n)
range_increases n k lt =
    let l = length-range_with_len 0 n in
    let e = get_or-range_with_len 0 n k 0 (omega (arith, l, lt)) in
    let f = get_or-range_with_len 0 n (k + 1) 0 (omega (arith, l, lt)) in
    omega (arith, e, f)

module _ (marks : List Bool) where
  abbrev test : ℕ → Bool
  test i = get_or marks i false

  -- those below n that are marked, and then n
  abbrev pub marked_so_far : ℕ → List ℕ
  marked_so_far n = filter test (range_with_len 0 n)

  one_more : (n : ℕ) → marked_so_far (n + 1) ≡ marked_so_far n ++ cond (test n) (n ∷ []) []
  one_more n = ap (filter test) (range_more n) ∙ filter-append test (range_with_len 0 n) (n ∷ [])

  pub marked_next : (n : ℕ) (numbers next : List ℕ) → numbers ≡ marked_so_far n → test n ≡ true → next ≡ numbers ++ n ∷ [] → next ≡ marked_so_far (n + 1)
  marked_next n numbers next is t pushed =
      pushed ∙ (ap (λ (l : List ℕ). l ++ n ∷ []) is ∙ sym (one_more n ∙ ap (λ (l : List ℕ). marked_so_far n ++ l) (cond-true (test n) (n ∷ []) [] t)))

  pub unmarked_next : (n : ℕ) (numbers : List ℕ) → numbers ≡ marked_so_far n → test n ≡ false → numbers ≡ marked_so_far (n + 1)
  unmarked_next n numbers is f =
      is ∙ (sym (append-nil (marked_so_far n)) ∙ sym (one_more n ∙ ap (λ (l : List ℕ). marked_so_far n ++ l) (cond-false (test n) (n ∷ []) [] f)))

  pub marked_increase : IsStrictlyIncreasing (marked_numbers marks)
  marked_increase = IsStrictlyIncreasing-filter test (range_with_len 0 (length marks)) (range_increases (length marks))

  pub marked_are : (i : ℕ) → Contains (marked_numbers marks) i ↔ IsMarked marks i
  marked_are i = (
    λ at. All-contains (λ (k : ℕ). test k ≡ true) (marked_numbers marks) i (filter_passes test (range_with_len 0 (length marks))) at,
    λ t. stays test i t (range_with_len 0 (length marks)) (contains_range (length marks) i (marked_within marks i t)),
  )

-- where nothing is marked
pub all_unmarked : (n i : ℕ) → IsMarked (replicate n false) i → ⊥
all_unmarked n i t =
    let lt : i < n = let l = marked_within (replicate n false) i t in let m = length-replicate {A = Bool} n false in omega (arith, l, m) in
    true≢false (sym t ∙ get_or-replicate n i false false lt)
