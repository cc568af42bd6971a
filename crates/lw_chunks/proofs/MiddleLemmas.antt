-- The word with a number, among those of so many letters and among those of at most so many.
use Rattle.std.proofs.Common.{◌≡◌, ℕ, zero, suc, ◌+◌, ◌-◌, ◌*◌, ◌/◌, ◌%◌, ◌^◌, ◌<◌, ◌≤◌, List, [], ◌∷◌, ◌++◌, length, get_or, refl, sym, ap, ◌∙◌, arith, subst, ⊎_elim, zero-add, append_assoc, append-nil}
use Rattle.std.proofs.lemmas.Bool.{cases_lt}
use Rattle.std.proofs.lemmas.List.{get_or_append_left, get_or-append-add}
use Rattle.std.proofs.lemmas.List.FromFn.{length-range_with_len, get_or-range_with_len}
use Rattle.std.proofs.Math.Nat.{pow-zero, pow-suc, mul-div_cancel, div-lt_iff_lt-mul, mod-lt, one-le-pow}
use Rattle.std.proofs.lemmas.Nat.{div-add-mod'}
use Rattle.std.specs.List.{range_with_len}
use Rattle.lw_chunks.specs.Size.{powers}
use Rattle.lw_chunks.specs.Middle.{words_of_length, words_up_to}
use Rattle.lw_chunks.proofs.EachLemmas.{each_at}
use Rattle.lw_chunks.proofs.SizeLemmas.{length-words_of, length-words_up_to, pow_suc, power_in, power_below, powers_rise}

-- the first letter of a word and its rest, by its number
pub first_letter : (a n x r : ℕ) → x < a → r < a ^ n → get_or (words_of_length a (suc n)) (x * a ^ n + r) [] ≡ x ∷ get_or (words_of_length a n) r []
first_letter a n x r lx lr =
    let long : length (words_of_length a n) ≡ a ^ n = length-words_of a n in
    let li : x < length (range_with_len 0 a) = rw (length-range_with_len 0 a) lx in
    let lj : r < length (words_of_length a n) = rw long lr in
    let e = each_at (λ y w. y ∷ w) (range_with_len 0 a) (words_of_length a n) x r 0 [] [] li lj in
    let e' : get_or (words_of_length a (suc n)) (x * a ^ n + r) [] ≡ get_or (range_with_len 0 a) x 0 ∷ get_or (words_of_length a n) r [] =
    ap (λ (m : ℕ). get_or (words_of_length a (suc n)) (x * m + r) []) (sym long) ∙ e in
    e' ∙ ap (λ (y : ℕ). y ∷ get_or (words_of_length a n) r []) (get_or-range_with_len 0 a x 0 lx ∙ zero-add x)

-- a word of exactly l letters, among those of at most n
pub among : (a l n r : ℕ) → l ≤ n → r < a ^ l → get_or (words_up_to a n) (powers a l - a ^ l + r) [] ≡ get_or (words_of_length a l) r []
among a l zero r le lr =
    let e : l ≡ 0 = omega arith in
    rw e (let z : a ^ 0 ≡ 1 = pow-zero a in let h : powers a 0 - a ^ 0 + r ≡ r = omega arith in ap (λ (m : ℕ). get_or (words_of_length a 0) m []) h)
among a l (suc n) r le lr = ⊎_elim
    (λ (lt : l < suc n).
    let h = among a l n r (omega arith) lr in
    let rise : powers a l ≤ powers a n = powers_rise a l n (omega arith) in
    let part : a ^ l ≤ powers a l = power_in a l l (omega arith) in
    let long : length (words_up_to a n) ≡ powers a n = length-words_up_to a n in
    let within : powers a l - a ^ l + r < length (words_up_to a n) = omega arith in
    get_or_append_left (words_up_to a n) (words_of_length a (suc n)) [] (powers a l - a ^ l + r) within ∙ h)
    (λ (ge : suc n ≤ l).
    let e : l ≡ suc n = omega arith in
    let long : length (words_up_to a n) ≡ powers a n = length-words_up_to a n in
    let at : powers a (suc n) - a ^ suc n + r ≡ length (words_up_to a n) + r = omega arith in
    rw e (ap (λ (m : ℕ). get_or (words_up_to a (suc n)) m []) at ∙ get_or-append-add (words_up_to a n) (words_of_length a (suc n)) r []))
    (cases_lt l (suc n))

-- the loop that looks for the number of letters: what is left of the number, and the words of so many letters
pub record Looked (a longest number letters rest count : ℕ) : Type 0 where
  pub counted : count ≡ a ^ letters
  pub short : letters ≤ longest
  pub left : rest + powers a letters ≡ number + count

pub looked_start : (a longest number : ℕ) → Looked a longest number 0 number 1
looked_start a longest number = record { counted = sym (pow-zero a); short = omega arith; left = refl }

-- the number is not among the words of so many letters, so there are longer ones
pub looked_more : (a longest number letters rest count : ℕ) → number < powers a longest → count ≤ rest → Looked a longest number letters rest count
    → (letters < longest) × Looked a longest number (letters + 1) (rest - count) (count * a)
looked_more a longest number letters rest count within more h =
    let e : letters + 1 ≡ suc letters = omega arith in
    let next : powers a (letters + 1) ≡ powers a letters + a ^ (letters + 1) = ap (powers a) e ∙ ap (λ (k : ℕ). powers a letters + a ^ k) (sym e) in
    let up : a ^ (letters + 1) ≡ count * a = ap (λ (k : ℕ). a ^ k) e ∙ (pow_suc a letters ∙ (let m : a * a ^ letters ≡ a ^ letters * a = omega arith in m) ∙ ap (λ (n : ℕ). n * a) (sym h.counted)) in
    let past : powers a letters ≤ number = omega (arith, h.left) in
    let lt : letters < longest = ⊎_elim (λ (l : letters < longest). l)
    (λ (ge : longest ≤ letters). let r = powers_rise a longest letters ge in absurd (omega (arith, r, past, within)))
    (cases_lt letters longest) in
    (lt, record { counted = sym up; short = omega arith; left = let l = h.left in omega arith })

pub looked_end : (a longest number letters rest count : ℕ) → rest < count → Looked a longest number letters rest count
    → get_or (words_up_to a longest) number [] ≡ get_or (words_of_length a letters) rest []
looked_end a longest number letters rest count lt h =
    let part : a ^ letters ≤ powers a letters = power_in a letters letters (omega arith) in
    let c = h.counted in
    let l = h.left in
    let at : number ≡ powers a letters - a ^ letters + rest = omega arith in
    ap (λ (n : ℕ). get_or (words_up_to a longest) n []) at ∙ among a letters longest rest h.short (rw (← h.counted) lt)

-- the number of the words with one letter more fits
pub looked_fits : (a longest number letters rest count : ℕ) → a ≤ 64 → longest ≤ 5 → number < powers a longest → count ≤ rest
    → Looked a longest number letters rest count → count * a ≤ 1073741824
looked_fits a longest number letters rest count le few within more h =
    let step = looked_more a longest number letters rest count within more h in
    let bound : a ^ (letters + 1) ≤ 1073741824 = power_below a (letters + 1) le (let lt = step.0 in omega arith) in
    rw step.1.counted bound

-- the loop that spells: so many letters are left, and the number of the rest among the words of so many letters
pub record Spelled (a left : ℕ) (word : List ℕ) (number count : ℕ) (whole : List ℕ) : Type 0 where
  pub counted : count ≡ a ^ left
  pub below : number < count
  pub rest : word ++ get_or (words_of_length a left) number [] ≡ whole

-- one letter more is spelled
pub spelled_more : (a n : ℕ) (word : List ℕ) (number count : ℕ) (whole : List ℕ) → Spelled a (suc n) word number count whole
    → (0 < a) × (0 < count / a) × (number / (count / a) < a) × Spelled a n (word ++ number / (count / a) ∷ []) (number % (count / a)) (count / a) whole
spelled_more a n word number count whole h =
    let up : a ^ suc n ≡ a ^ n * a = pow-suc a n in
    let c = h.counted in
    let b = h.below in
    let pos : 0 < a = ⊎_elim (λ (z : a < 1). let e : a ≡ 0 = omega arith in let m : a ^ n * a ≡ 0 = rw e (omega arith) in absurd (omega arith)) (λ (o : 1 ≤ a). omega arith) (cases_lt a 1) in
    let some : 1 ≤ a ^ n = one-le-pow n a pos in
    let e : count / a ≡ a ^ n = ap (λ (k : ℕ). k / a) (c ∙ up) ∙ mul-div_cancel (a ^ n) pos in
    let some' : 0 < count / a = omega arith in
    let lt : number < a * (count / a) = rw e (let m : a * a ^ n ≡ a ^ n * a = omega arith in omega arith) in
    let letter : number / (count / a) < a = (div-lt_iff_lt-mul some').1 lt in
    let r : number % (count / a) < count / a = mod-lt number some' in
    let is : number / (count / a) * (count / a) + number % (count / a) ≡ number = div-add-mod' number (count / a) in
    let f : get_or (words_of_length a (suc n)) (number / (count / a) * a ^ n + number % (count / a)) [] ≡ number / (count / a) ∷ get_or (words_of_length a n) (number % (count / a)) [] =
    first_letter a n (number / (count / a)) (number % (count / a)) letter (rw (← e) r) in
    let at : number ≡ number / (count / a) * a ^ n + number % (count / a) = rw (← e) (sym is) in
    let first : get_or (words_of_length a (suc n)) number [] ≡ number / (count / a) ∷ get_or (words_of_length a n) (number % (count / a)) [] =
    ap (λ (k : ℕ). get_or (words_of_length a (suc n)) k []) at ∙ f in (
      pos,
      some',
      letter,
      record {
        counted = e;
        below = r;
        rest = append_assoc word (number / (count / a) ∷ []) (get_or (words_of_length a n) (number % (count / a)) []) ∙ (ap (λ (v : List ℕ). word ++ v) (sym first) ∙ h.rest);
      },
    )

pub spelled_end : (a : ℕ) (word : List ℕ) (number count : ℕ) (whole : List ℕ) → Spelled a 0 word number count whole → word ≡ whole
spelled_end a word number count whole h =
    let z : number ≡ 0 = let c = h.counted in let b = h.below in let p : a ^ 0 ≡ 1 = pow-zero a in omega arith in
    let r : get_or (words_of_length a 0) number [] ≡ [] = rw z refl in
    sym (append-nil word) ∙ (ap (λ (v : List ℕ). word ++ v) (sym r) ∙ h.rest)

-- one letter more is spelled, in a loop that counts the letters, over the number of inputs as the code has it
pub spelled_at : (a b end counter : ℕ) (word : List ℕ) (number count : ℕ) (whole : List ℕ) → counter < end → b ≡ a → Spelled a (end - counter) word number count whole
    → (0 < a) × (0 < count / b) × (number / (count / b) < a) × Spelled a (end - (counter + 1)) (word ++ number / (count / b) ∷ []) (number % (count / b)) (count / b) whole
spelled_at a b end counter word number count whole lt is h =
    let n : ℕ = end - (counter + 1) in
    let e : end - counter ≡ suc n = omega arith in
    let h' : Spelled a (suc n) word number count whole = subst (λ (l : ℕ). Spelled a l word number count whole) e h in
    rw is (spelled_more a n word number count whole h')
