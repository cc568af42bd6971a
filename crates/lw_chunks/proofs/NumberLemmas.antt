-- Each middle word, and each word of a suite, has a place.
use Rattle.std.proofs.Common.{◌≡◌, ℕ, suc, ◌+◌, ◌-◌, ◌*◌, ◌^◌, ◌<◌, ◌≤◌, List, [], ◌∷◌, ◌++◌, length, get_or, refl, ap, ◌∙◌, arith}
use Rattle.std.specs.List.{AllByRecursion}
use Rattle.std.proofs.Math.Nat.{mul-le-mul_right}
use Rattle.lw_chunks.specs.Size.{powers}
use Rattle.lw_chunks.specs.Middle.{each_with, words_of_length, words_up_to, suite_of}
use Rattle.lw_chunks.proofs.EachLemmas.{each_at, length-each}
use Rattle.lw_chunks.proofs.SizeLemmas.{length-words_of, length-words_up_to, power_in, powers_rise, pow_suc}
use Rattle.lw_chunks.proofs.MiddleLemmas.{first_letter, among}

-- a word over a letters, by recursion
abbrev pub Over : ℕ → List ℕ → Type 0
Over a w = AllByRecursion (λ x. x < a) w

-- each with each: a place for each pair
pub each_in : {X Y Z : Type 0} (f : X → Y → Z) (xs : List X) (ys : List Y) (i j : ℕ) (c : X) (d : Y) (e : Z) → i < length xs → j < length ys
    → (n : ℕ) × (n < length (each_with f xs ys)) × (get_or (each_with f xs ys) n e ≡ f (get_or xs i c) (get_or ys j d))
each_in f xs ys i j c d e li lj =
    let up : i + 1 ≤ length xs = omega arith in
    let m = mul-le-mul_right (length ys) up in
    let l = length-each f xs ys in
    (i * length ys + j, omega arith, each_at f xs ys i j c d e li lj)

-- the number of a word among the words of its length
pub number_in : (a : ℕ) (w : List ℕ) → Over a w → (r : ℕ) × (r < a ^ length w) × (get_or (words_of_length a (length w)) r [] ≡ w)
number_in a [] o = (0, let e = length-words_of a 0 in omega arith, refl)
number_in a (x ∷ w) o =
    let h = number_in a w o.1 in
    let up : x + 1 ≤ a = let lt = o.0 in omega arith in
    let m = mul-le-mul_right (a ^ length w) up in
    let p : a ^ suc (length w) ≡ a * a ^ length w = pow_suc a (length w) in
    let lt = h.1 in
    (x * a ^ length w + h.0, omega arith, first_letter a (length w) x h.0 o.0 h.1 ∙ ap (λ (v : List ℕ). x ∷ v) h.2)

-- its number among the words of at most n letters
pub number_up_to : (a n : ℕ) (w : List ℕ) → Over a w → length w ≤ n → (r : ℕ) × (r < length (words_up_to a n)) × (get_or (words_up_to a n) r [] ≡ w)
number_up_to a n w o le =
    let h = number_in a w o in
    let part : a ^ length w ≤ powers a (length w) = power_in a (length w) (length w) (omega arith) in
    let rise : powers a (length w) ≤ powers a n = powers_rise a (length w) n le in
    let long : length (words_up_to a n) ≡ powers a n = length-words_up_to a n in
    let lt = h.1 in
    (powers a (length w) - a ^ length w + h.0, omega arith, among a (length w) n h.0 le h.1 ∙ h.2)

-- each word of a suite stands in it
pub in_suite : (a n : ℕ) (access ends : List (List ℕ)) (q j : ℕ) (mid : List ℕ) → q < length access → Over a mid → length mid ≤ n → j < length ([] ∷ ends)
    → (i : ℕ) × (i < length (suite_of access (words_up_to a n) ends)) × (get_or (suite_of access (words_up_to a n) ends) i [] ≡ (get_or access q [] ++ mid) ++ get_or ([] ∷ ends) j [])
in_suite a n access ends q j mid lq o le lj =
    let r = number_up_to a n mid o le in
    let f = each_in (λ (u v : List ℕ). u ++ v) access (words_up_to a n) q r.0 [] [] [] lq r.1 in
    let g = each_in (λ (u v : List ℕ). u ++ v) (each_with (λ (u v : List ℕ). u ++ v) access (words_up_to a n)) ([] ∷ ends) f.0 j [] [] [] f.1 lj in
    (g.0, g.1, g.2 ∙ ap (λ (u : List ℕ). u ++ get_or ([] ∷ ends) j []) (f.2 ∙ ap (λ (v : List ℕ). get_or access q [] ++ v) r.2))
