-- Names under new numbers make a bijection of all numbers.
use Rattle.std.proofs.Common.{◌≡◌, ℕ, ◌<◌, ◌≤◌, ◌⊎◌, inl, inr, ⊎_elim, List, [], length, get_or, Contains, refl, ap, sym, ◌∙◌, subst, arith}
use Rattle.std.specs.List.Sorted.{IsPermutation}
use Rattle.std.proofs.lemmas.Bool.{cases_lt, cases_order}
use Rattle.std.proofs.lemmas.List.Elements.{Contains-get_or}
use Rattle.std.proofs.lemmas.List.Sorted.{Contains-permutation, IsPermutation-sym, length_permutation}
use Rattle.std.proofs.lemmas.List.{get_or_default}
use Rattle.lw_words.specs.Word.{AllDiffer, name_at}
use Rattle.lw_renumber.specs.Sorting.{IsRenumbering}

-- where names differ a name has one number
one_number : (names : List (List ℕ)) (x y : ℕ) → AllDiffer names → x < length names → y < length names → name_at names x ≡ name_at names y → x ≡ y
one_number names x y differ lx ly same =
    ⊎_elim
    (λ (e : x ≡ y). e)
    (λ (o : (x < y) ⊎ (y < x)). ⊎_elim
    (λ (less : x < y). absurd (differ x y [] less ly same))
    (λ (more : y < x). absurd (differ y x [] more lx (sym same)))
    o)
    (cases_order x y)

-- by a rule below n; what is not below n stays
module _ (n : ℕ) (rule : (y : ℕ) → y < n → ℕ) where
  chosen : (y : ℕ) → (y < n) ⊎ (n ≤ y) → ℕ
  chosen y (inl lt) = rule y lt
  chosen y (inr le) = y

  pub ruled : ℕ → ℕ
  ruled y = chosen y (cases_lt y n)

  chosen_high : (y : ℕ) (c : (y < n) ⊎ (n ≤ y)) → n ≤ y → chosen y c ≡ y
  unfolding chosen
  chosen_high y (inl lt) le = absurd (omega (arith, lt, le))
  chosen_high y (inr ge) le = refl

  chosen_low : (P : ℕ → Type 0) (y : ℕ) (c : (y < n) ⊎ (n ≤ y)) → y < n → ((lt : y < n) → P (rule y lt)) → P (chosen y c)
  unfolding chosen
  chosen_low P y (inl lt) le h = h lt
  chosen_low P y (inr ge) le h = absurd (omega (arith, ge, le))

  pub ruled_high : (y : ℕ) → n ≤ y → ruled y ≡ y
  unfolding ruled
  ruled_high y le = chosen_high y (cases_lt y n) le

  pub ruled_low : (P : ℕ → Type 0) (y : ℕ) → y < n → ((lt : y < n) → P (rule y lt)) → P (ruled y)
  unfolding ruled
  ruled_low P y lt h = chosen_low P y (cases_lt y n) lt h

-- the names before and those now, the same in another order
module _ (to : List ℕ) (before now : List (List ℕ)) (differ : AllDiffer before) (differ_now : AllDiffer now) (moved : IsPermutation before now)
    (numbers : (y : ℕ) → y < length before → (get_or to y 0 < length now) × (name_at now (get_or to y 0) ≡ name_at before y)) where
  abbrev n : ℕ
  n = length before

  as_many : length now ≡ n
  as_many = length_permutation before now moved

  f : ℕ → ℕ
  f = ruled n (λ y lt. get_or to y 0)

  was : (y : ℕ) → y < n → Contains before (name_at now y)
  was y lt = Contains-permutation now before (name_at now y) (IsPermutation-sym before now moved) (Contains-get_or now y [] (omega (arith, as_many, lt)))

  g : ℕ → ℕ
  g = ruled n (λ y lt. (was y lt).0)

  listed : (y : ℕ) → y < n → get_or to y 0 ≡ f y
  unfolding f
  listed y lt = ruled_low n (λ y lt. get_or to y 0) (λ z. get_or to y 0 ≡ z) y lt (λ le. refl)

  past : (y : ℕ) → n ≤ y → f y ≡ y
  unfolding f
  past y le = ruled_high n (λ y lt. get_or to y 0) y le

  past_back : (y : ℕ) → n ≤ y → g y ≡ y
  unfolding g
  past_back y le = ruled_high n (λ y lt. (was y lt).0) y le

  within : (y : ℕ) → y < n → f y < n
  within y lt = subst (λ (z : ℕ). z < n) (listed y lt) (let h = (numbers y lt).0 in omega (arith, as_many, h))

  still_named : (y : ℕ) → y < n → name_at now (f y) ≡ name_at before y
  still_named y lt = ap (name_at now) (sym (listed y lt)) ∙ (numbers y lt).1

  abbrev IsOwn : ℕ → ℕ → Type 0
  IsOwn y z = (z < n) × (name_at before z ≡ name_at now y)

  own : (y : ℕ) → y < n → IsOwn y (g y)
  unfolding g
  own y lt =
      ruled_low n (λ y lt. (was y lt).0) (IsOwn y) y lt (λ le.
      let c = was y le in
      (c.1, get_or_default before c.0 [] (name_at now y) c.1 ∙ c.2))

  back : (y : ℕ) → g (f y) ≡ y
  back y =
      ⊎_elim
      (λ (lt : y < n).
      let o = own (f y) (within y lt) in
      one_number before (g (f y)) y differ o.0 lt (o.1 ∙ still_named y lt))
      (λ (le : n ≤ y). ap g (past y le) ∙ past_back y le)
      (cases_lt y n)

  forth : (y : ℕ) → f (g y) ≡ y
  forth y =
      ⊎_elim
      (λ (lt : y < n).
      let o = own y lt in
      let w = within (g y) o.0 in
      one_number now (f (g y)) y differ_now (omega (arith, as_many, w)) (omega (arith, as_many, lt)) (still_named (g y) o.0 ∙ o.1))
      (λ (le : n ≤ y). ap f (past_back y le) ∙ past y le)
      (cases_lt y n)

  pub renumbering : (f : ℕ → ℕ) × (g : ℕ → ℕ) × IsRenumbering to before now f g
  renumbering = (
    f,
    g,
    record {
      renames = record { back = back; forth = forth };
      count = as_many;
      listed = listed;
      within = within;
      past = past;
      named = still_named;
    },
  )
