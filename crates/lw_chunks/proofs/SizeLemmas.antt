-- Powers, and the numbers of words of so many letters.
use Rattle.std.proofs.Common.{◌≡◌, ℕ, zero, suc, ◌+◌, ◌*◌, ◌^◌, ◌<◌, ◌≤◌, ◌∷◌, length, refl, sym, ap, ap₂, ◌∙◌, arith, lit≤, ⊎_elim}
use Rattle.std.proofs.lemmas.List.{length-append}
use Rattle.std.proofs.lemmas.List.FromFn.{length-range_with_len}
use Rattle.std.proofs.Math.Nat.{pow-le-pow_left, pow-le-pow_right, pow-zero}
use Rattle.std.proofs.lemmas.Bool.{cases_lt}
use Rattle.std.proofs.lemmas.Grind.{pow_more}
use Rattle.std.specs.List.{range_with_len}
use Rattle.lw_chunks.specs.Size.{powers}
use Rattle.lw_chunks.specs.Middle.{words_of_length, words_up_to}
use Rattle.lw_chunks.proofs.EachLemmas.{length-each}

pub pow_suc : (a n : ℕ) → a ^ suc n ≡ a * a ^ n
pow_suc a n = let e : suc n ≡ n + 1 = omega arith in ap (λ (k : ℕ). a ^ k) e ∙ (pow_more a n ∙ (let m : a ^ n * a ≡ a * a ^ n = omega arith in m))

pub length-words_of : (a n : ℕ) → length (words_of_length a n) ≡ a ^ n
length-words_of a zero = sym (pow-zero a)
length-words_of a (suc n) =
    length-each (λ x w. x ∷ w) (range_with_len 0 a) (words_of_length a n)
    ∙ (ap₂ (λ (x y : ℕ). x * y) (length-range_with_len 0 a) (length-words_of a n) ∙ sym (pow_suc a n))

pub length-words_up_to : (a n : ℕ) → length (words_up_to a n) ≡ powers a n
length-words_up_to a zero = refl
length-words_up_to a (suc n) =
    length-append (words_up_to a n) (words_of_length a (suc n))
    ∙ ap₂ (λ (x y : ℕ). x + y) (length-words_up_to a n) (length-words_of a (suc n))

pub power_below : (a i : ℕ) → a ≤ 64 → i ≤ 5 → a ^ i ≤ 1073741824
power_below a i le few =
    let one : a ^ i ≤ 64 ^ i = pow-le-pow_left le i in
    let pos : 0 < 64 = omega arith in
    let two : 64 ^ i ≤ 64 ^ 5 = pow-le-pow_right pos few in
    let num : 64 ^ 5 ≡ 1073741824 = refl in
    omega arith

pub powers_more : (a i : ℕ) → powers a (i + 1) ≡ powers a i + a ^ (i + 1)
powers_more a i = let e : i + 1 ≡ suc i = omega arith in ap (powers a) e ∙ ap (λ (k : ℕ). powers a i + a ^ k) (sym e)

-- at most n + 1 powers of at most 64^5
pub powers_within : (a i : ℕ) → a ≤ 64 → i ≤ 5 → powers a i ≤ (i + 1) * 1073741824
powers_within a zero le few = lit≤ tt
powers_within a (suc i) le few =
    let h = powers_within a i le (omega arith) in
    let p = power_below a (suc i) le few in
    omega arith

pub powers_below : (a i : ℕ) → a ≤ 64 → i ≤ 5 → powers a i ≤ 6442450944
powers_below a i le few = let h = powers_within a i le few in omega arith

-- a power is one of the sum
pub power_in : (a l n : ℕ) → l ≤ n → a ^ l ≤ powers a n
power_in a l zero le = let e : l ≡ 0 = omega arith in rw (e, pow-zero) (lit≤ tt)
power_in a l (suc n) le =
    ⊎_elim (λ (lt : l < suc n). let h = power_in a l n (omega arith) in omega arith) (λ (ge : suc n ≤ l). let e : l ≡ suc n = omega arith in rw e (omega arith)) (cases_lt l (suc n))

pub powers_rise : (a l n : ℕ) → l ≤ n → powers a l ≤ powers a n
powers_rise a l zero le = let e : l ≡ 0 = omega arith in rw e (omega arith)
powers_rise a l (suc n) le =
    ⊎_elim (λ (lt : l < suc n). let h = powers_rise a l n (omega arith) in omega arith) (λ (ge : suc n ≤ l). let e : l ≡ suc n = omega arith in rw e (omega arith)) (cases_lt l (suc n))

pub ruleset size_steps = (power_below, powers_more, powers_below, pow_more)
