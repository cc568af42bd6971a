-- The words of rows.
use Rattle.std.proofs.Common.{◌≡◌, inr, ⊎_elim, ℕ, suc, ◌+◌, ◌*◌, ◌-◌, ◌/◌, ◌%◌, ◌<◌, ◌≤◌, List, [], ◌∷◌, ◌++◌, length, ap, ap₂, sym, ◌∙◌, subst, arith}
use Rattle.std.specs.List.{All}
use Rattle.std.proofs.Math.Nat.{div-lt_iff_lt-mul, mod-lt, mul-le-mul_right}
use Rattle.std.proofs.lemmas.Nat.{div-add-mod', div-mul-add}
use Rattle.std.proofs.lemmas.Bool.{cases_lt}
use Rattle.std.proofs.lemmas.List.Elements.{All-push, All-nil}
use Rattle.lw_words.specs.Word.{IsWord}
use Rattle.lw_cache.specs.Cut.{word_at}
use Rattle.lw_table.specs.Table.{row_number}
use Rattle.lw_table.specs.bodies.Rows.{IsRowWord}

-- the row of an extension, by quotient and rest
pub extension_word : (a : ℕ) (access : List (List ℕ)) (j : ℕ) (w : List ℕ) → 1 ≤ a → 0 < j → j < 1 + length access * a → w ≡ word_at access ((j - 1) / a) ++ (j - 1) % a ∷ [] → IsRowWord a access j w
extension_word a access j w some after within is =
    let q : ℕ = (j - 1) / a in
    let x : ℕ = (j - 1) % a in
    let whole : q * a + x ≡ j - 1 = div-add-mod' (j - 1) a in
    inr (q, x, (div-lt_iff_lt-mul {k = a} {x = j - 1} {y = length access} (omega arith)).1 (omega arith), mod-lt (j - 1) {m = a} (omega arith), omega (arith, whole), is)

pub row_word_letters : (a : ℕ) (access : List (List ℕ)) (j : ℕ) (w : List ℕ) → All (IsWord a) access → IsRowWord a access j w → IsWord a w
row_word_letters a access j w words is =
    ⊎_elim
    (λ (z : (j ≡ 0) × (w ≡ [])). subst (IsWord a) (sym z.1) (All-nil (λ y. y < a)))
    (λ (e : (q : ℕ) × (x : ℕ) × (q < length access) × (x < a) × (j ≡ row_number a q x) × (w ≡ word_at access q ++ x ∷ [])).
    subst (IsWord a) (sym e.5) (All-push (λ y. y < a) (word_at access e.0) e.1 (words e.0 [] e.2) e.3))
    is

-- a row number has one access word and one letter
row_once : (a q x p y : ℕ) → x < a → y < a → row_number a q x ≡ row_number a p y → (q ≡ p) × (x ≡ y)
row_once a q x p y lx ly same =
    let even : q * a + x ≡ p * a + y = omega (arith, same) in
    let one : q ≡ p = sym (div-mul-add q a x lx) ∙ (ap (λ (n : ℕ). n / a) even ∙ div-mul-add p a y ly) in
    let here : p * a + x ≡ p * a + y = subst (λ (n : ℕ). n * a + x ≡ p * a + y) one even in
    (one, omega (arith, here))

-- a row has one word
pub row_word_once : (a : ℕ) (access : List (List ℕ)) (j : ℕ) (v w : List ℕ) → IsRowWord a access j v → IsRowWord a access j w → v ≡ w
row_word_once a access j v w is also =
    ⊎_elim
    (λ (z : (j ≡ 0) × (v ≡ [])). ⊎_elim
    (λ (z' : (j ≡ 0) × (w ≡ [])). z.1 ∙ sym z'.1)
    (λ (e' : (q : ℕ) × (x : ℕ) × (q < length access) × (x < a) × (j ≡ row_number a q x) × (w ≡ word_at access q ++ x ∷ [])). absurd (omega (arith, z.0, e'.4)))
    also)
    (λ (e : (q : ℕ) × (x : ℕ) × (q < length access) × (x < a) × (j ≡ row_number a q x) × (v ≡ word_at access q ++ x ∷ [])). ⊎_elim
    (λ (z' : (j ≡ 0) × (w ≡ [])). absurd (omega (arith, z'.0, e.4)))
    (λ (e' : (q : ℕ) × (x : ℕ) × (q < length access) × (x < a) × (j ≡ row_number a q x) × (w ≡ word_at access q ++ x ∷ [])).
    let one = row_once a e.0 e.1 e'.0 e'.1 e.3 e'.3 (sym e.4 ∙ e'.4) in
    e.5 ∙ (ap₂ (λ (q x : ℕ). word_at access q ++ x ∷ []) one.0 one.1 ∙ sym e'.5))
    also)
    is

-- an extension's row is a row
pub home_row : (a n q x home rows : ℕ) → q < n → x < a → home ≡ row_number a q x → rows ≡ 1 + n * a → home < rows
home_row a n q x home rows lq lx is size =
    let more : suc q * a ≤ n * a = mul-le-mul_right a (omega arith) in
    let next : suc q * a ≡ q * a + a = omega arith in
    omega (arith, more, next, lx, is, size)

-- what holds of the rows so far, and of one more
pub rows_more : (P : ℕ → Type 0) (from row : ℕ) → ((j : ℕ) → from ≤ j → j < row → P j) → P row → (j : ℕ) → from ≤ j → j < row + 1 → P j
rows_more P from row was here j le lt =
    ⊎_elim (λ (below : j < row). was j le below) (λ (above : row ≤ j). let at : j ≡ row = omega arith in subst P (sym at) here) (cases_lt j row)
