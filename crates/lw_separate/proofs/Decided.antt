-- What holds or doesn't hold: where that is told of the parts, it is told of the whole.
use Rattle.std.proofs.Common.{◌≡◌, ℕ, zero, suc, ◌<◌, ◌≤◌, ◌⊎◌, inl, inr, ⊎_elim, List, [], ◌∷◌, length, get_or, refl, ap₂, sym, subst, arith}
use Rattle.std.specs.List.{All}
use Rattle.std.proofs.lemmas.Bool.{cases_lt}
use Rattle.std.proofs.lemmas.List.{get_or_default}
use Rattle.std.proofs.lemmas.List.Elements.{All-from_get_or}
use Rattle.lw_words.specs.First.{FailsFirst}
use Rattle.lw_separate.proofs.SearchLemmas.{last_or_before}

-- it holds, or it doesn't
abbrev pub Decided : Type 0 → Type 0
Decided P = P ⊎ (¬ P)

-- the least number below n of which P holds, or Q holds of all
abbrev pub FirstBelow : (ℕ → Type 0) → (ℕ → Type 0) → ℕ → Type 0
FirstBelow P Q n = ((x : ℕ) × (x < n) × P x × ((y : ℕ) → y < x → Q y)) ⊎ ((y : ℕ) → y < n → Q y)

pub first_below : (P Q : ℕ → Type 0) (n : ℕ) → ((x : ℕ) → x < n → P x ⊎ Q x) → FirstBelow P Q n
first_below P Q zero each = inr (λ y lt. absurd (omega arith))
first_below P Q (suc n) each =
    ⊎_elim
    (λ (f : (x : ℕ) × (x < n) × P x × ((y : ℕ) → y < x → Q y)). inl (f.0, omega (arith, f.1), f.2, f.3))
    (λ (none : (y : ℕ) → y < n → Q y).
    ⊎_elim
    (λ (here : P n). inl (n, omega arith, here, none))
    (λ (here : Q n). inr (λ y lt. ⊎_elim (λ (l : y < n). none y l) (λ (s : y ≡ n). subst Q (sym s) here) (last_or_before y n (omega arith))))
    (each n (omega arith)))
    (first_below P Q n (λ x lt. each x (omega arith)))

pub turned : {P : Type 0} → Decided P → (¬ P) ⊎ P
turned {P} p = ⊎_elim (λ (h : P). inr h) (λ (h : ¬ P). inl h) p

pub decides_not : {P : Type 0} → Decided P → Decided (¬ P)
decides_not {P} p = ⊎_elim (λ (h : P). inr (λ (no : ¬ P). no h)) (λ (h : ¬ P). inl h) p

-- of two that give each other
pub decides_like : {P Q : Type 0} → (P → Q) → (Q → P) → Decided P → Decided Q
decides_like {P} {Q} on back p = ⊎_elim (λ (h : P). inl (on h)) (λ (h : ¬ P). inr (λ (k : Q). h (back k))) p

pub decides_less : (m n : ℕ) → Decided (m < n)
decides_less m n = ⊎_elim (λ (lt : m < n). inl lt) (λ (le : n ≤ m). inr (λ (lt : m < n). omega arith)) (cases_lt m n)

pub decides_both : {P Q : Type 0} → Decided P → Decided Q → Decided (P × Q)
decides_both {P} {Q} p q = ⊎_elim (λ (h : P). ⊎_elim (λ (k : Q). inl (h, k)) (λ (k : ¬ Q). inr (λ (b : P × Q). k b.1)) q) (λ (h : ¬ P). inr (λ (b : P × Q). h b.0)) p

pub decides_either : {P Q : Type 0} → Decided P → Decided Q → Decided (P ⊎ Q)
decides_either {P} {Q} p q = ⊎_elim (λ (h : P). inl (inl h)) (λ (h : ¬ P). ⊎_elim (λ (k : Q). inl (inr k)) (λ (k : ¬ Q). inr (λ (b : P ⊎ Q). ⊎_elim h k b)) q) p

pub decides_implies : {P Q : Type 0} → Decided P → Decided Q → Decided (P → Q)
decides_implies {P} {Q} p q = ⊎_elim (λ (h : P). ⊎_elim (λ (k : Q). inl (λ (g : P). k)) (λ (k : ¬ Q). inr (λ (f : P → Q). k (f h))) q) (λ (h : ¬ P). inl (λ (g : P). absurd (h g))) p

-- a search of the numbers below a bound
pub decides_below : (P : ℕ → Type 0) (n : ℕ) → ((x : ℕ) → x < n → Decided (P x)) → Decided ((x : ℕ) × (x < n) × P x)
decides_below P n each =
    ⊎_elim
    (λ (f : (x : ℕ) × (x < n) × P x × ((y : ℕ) → y < x → ¬ P y)). inl (f.0, f.1, f.2))
    (λ (none : (y : ℕ) → y < n → ¬ P y). inr (λ (b : (x : ℕ) × (x < n) × P x). none b.0 b.1 b.2))
    (first_below P (λ x. ¬ P x) n each)

-- the equality of lists, from that of their elements
pub decides_same : {X : Type 0} → ((x y : X) → Decided (x ≡ y)) → (xs ys : List X) → Decided (xs ≡ ys)
decides_same each [] [] = inl refl
decides_same each [] (y ∷ ys) = inr (λ (e : [] ≡ y ∷ ys). cc)
decides_same each (x ∷ xs) [] = inr (λ (e : x ∷ xs ≡ []). cc)
decides_same {X} each (x ∷ xs) (y ∷ ys) =
    ⊎_elim
    (λ (b : (x ≡ y) × (xs ≡ ys)). inl (ap₂ (λ (z : X) (zs : List X). z ∷ zs) b.0 b.1))
    (λ (no : ¬ ((x ≡ y) × (xs ≡ ys))). inr (λ (e : x ∷ xs ≡ y ∷ ys). no (cc, cc)))
    (decides_both (each x y) (decides_same each xs ys))

-- P holds of all elements of a list, or fails of a first one
pub all_or_first : {X : Type 0} (P : X → Type 0) (xs : List X) (d : X) → ((x : X) → Decided (P x)) → All P xs ⊎ ((place : ℕ) × FailsFirst P xs place)
all_or_first {X} P xs d each =
    ⊎_elim
    (λ (f : (k : ℕ) × (k < length xs) × (¬ P (get_or xs k d)) × ((j : ℕ) → j < k → P (get_or xs j d))). inr (
      f.0,
      record {
        within = f.1;
        fails = λ e h. f.2 (subst P (get_or_default xs f.0 e d f.1) h);
        before = λ j e ge lt. subst P (get_or_default xs j d e (omega (arith, lt, f.1))) (f.3 j lt);
      },
    ))
    (λ (all : (j : ℕ) → j < length xs → P (get_or xs j d)). inl (All-from_get_or P xs d all))
    (first_below (λ k. ¬ P (get_or xs k d)) (λ k. P (get_or xs k d)) (length xs) (λ k lt. turned (each (get_or xs k d))))
