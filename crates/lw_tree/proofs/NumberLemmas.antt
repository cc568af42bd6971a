-- Lists of numbers: what is in them, and that one without repeats is no longer than one that has all of it.
use Rattle.std.proofs.Common.{◌≡◌, ◌⊎◌, inl, inr, ⊎_elim, ℕ, zero, suc, ◌<◌, ◌≤◌, Bool, true, false, ◌||◌, true≢false, List, [], ◌∷◌, ◌++◌, length, get_or, refl, ap, sym, subst, arith}
use Rattle.std.specs.List.{AllByRecursion, IsDistinct, list_any}
use Rattle.std.proofs.Math.Dec.{eqb}
use Rattle.std.proofs.lemmas.Bool.{eqb-true, eq-eqb}
use Rattle.std.proofs.lemmas.Cmp.{nat_eq_equiv}
use Rattle.std.proofs.lemmas.Map.Made.{length-le_from_is_member}

-- the number is in the list
abbrev pub Has : List ℕ → ℕ → Type 0
Has xs q = list_any (eqb q) xs ≡ true

-- it isn't
abbrev pub Lacks : List ℕ → ℕ → Type 0
Lacks xs q = AllByRecursion (λ x. eqb q x ≡ false) xs

pub or_first : (b c : Bool) → b ≡ true → (b || c) ≡ true
or_first b c is = ap (λ (x : Bool). x || c) is

pub or_second : (b c : Bool) → c ≡ true → (b || c) ≡ true
or_second true c is = refl
or_second false c is = is

or_one : (b c : Bool) → (b || c) ≡ true → (b ≡ true) ⊎ (c ≡ true)
or_one true c is = inl refl
or_one false c is = inr is

pub all_weaker : (P Q : ℕ → Type 0) (xs : List ℕ) → ((x : ℕ) → P x → Q x) → AllByRecursion P xs → AllByRecursion Q xs
all_weaker P Q [] gives all = tt
all_weaker P Q (x ∷ xs) gives all = (gives x all.0, all_weaker P Q xs gives all.1)

-- what holds of each holds of one that is in the list
pub of_all : (P : ℕ → Type 0) (xs : List ℕ) (q : ℕ) → AllByRecursion P xs → Has xs q → P q
of_all P [] q all has = absurd (true≢false (sym has))
of_all P (x ∷ xs) q all has =
    ⊎_elim
    (λ (here : eqb q x ≡ true). subst P (sym (eqb-true q x here)) all.0)
    (λ (there : list_any (eqb q) xs ≡ true). of_all P xs q all.1 there)
    (or_one (eqb q x) (list_any (eqb q) xs) has)

pub has_left : (xs ys : List ℕ) (q : ℕ) → Has xs q → Has (xs ++ ys) q
has_left [] ys q has = absurd (true≢false (sym has))
has_left (x ∷ xs) ys q has =
    ⊎_elim
    (λ (here : eqb q x ≡ true). or_first (eqb q x) (list_any (eqb q) (xs ++ ys)) here)
    (λ (there : list_any (eqb q) xs ≡ true). or_second (eqb q x) (list_any (eqb q) (xs ++ ys)) (has_left xs ys q there))
    (or_one (eqb q x) (list_any (eqb q) xs) has)

pub has_right : (xs ys : List ℕ) (q : ℕ) → Has ys q → Has (xs ++ ys) q
has_right [] ys q has = has
has_right (x ∷ xs) ys q has = or_second (eqb q x) (list_any (eqb q) (xs ++ ys)) (has_right xs ys q has)

-- the number at a place is in the list
pub has_at : (xs : List ℕ) (k d : ℕ) → k < length xs → Has xs (get_or xs k d)
has_at [] k d lt = absurd (omega (arith, lt))
has_at (x ∷ xs) zero d lt = or_first (eqb x x) (list_any (eqb x) xs) (eq-eqb x x refl)
has_at (x ∷ xs) (suc k) d lt = or_second (eqb (get_or xs k d) x) (list_any (eqb (get_or xs k d)) xs) (has_at xs k d (omega (arith, lt)))

-- numbers without repeats, each of them in another list, are no more than that has
pub no_more : (xs ys : List ℕ) → IsDistinct eqb xs → AllByRecursion (Has ys) xs → length xs ≤ length ys
no_more xs ys apart each = length-le_from_is_member nat_eq_equiv xs ys apart (λ q has. of_all (Has ys) xs q each has)
