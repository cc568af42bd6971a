-- An access word with a middle word, by its number.
use Rattle.std.proofs.Common.{◌≡◌, ℕ, ◌*◌, ◌+◌, ◌/◌, ◌%◌, ◌<◌, ◌≤◌, List, [], ◌++◌, length, get_or, sym, ap, ◌∙◌, arith, ⊎_elim}
use Rattle.std.proofs.lemmas.Bool.{cases_lt}
use Rattle.std.proofs.lemmas.Nat.{div-add-mod'}
use Rattle.std.proofs.Math.Nat.{mod-lt, div-lt_iff_lt-mul}
use Rattle.lw_chunks.specs.Middle.{each_with, words_up_to}
use Rattle.lw_chunks.specs.Size.{powers}
use Rattle.lw_chunks.proofs.EachLemmas.{each_at}
use Rattle.lw_chunks.proofs.SizeLemmas.{length-words_up_to}

pub some_middle : (n m at : ℕ) → at < n * m → 0 < m
some_middle n m at lt = ⊎_elim (λ (z : m < 1). let e : m ≡ 0 = omega arith in let p : n * m ≡ 0 = rw e (omega arith) in absurd (omega arith)) (λ (o : 1 ≤ m). omega arith) (cases_lt m 1)

-- the front with this number
pub front_at_number : (a n m at : ℕ) (access : List (List ℕ)) → m ≡ powers a n → at < length access * m
    → (at / m < length access) × (at % m < m) × (get_or (each_with (λ (u v : List ℕ). u ++ v) access (words_up_to a n)) at [] ≡ get_or access (at / m) [] ++ get_or (words_up_to a n) (at % m) [])
front_at_number a n m at access counted lt =
    let some : 0 < m = some_middle (length access) m at lt in
    let long : length (words_up_to a n) ≡ m = length-words_up_to a n ∙ sym counted in
    let first : at / m < length access = (div-lt_iff_lt-mul some).1 lt in
    let second : at % m < m = mod-lt at some in
    let e : get_or (each_with (λ (u v : List ℕ). u ++ v) access (words_up_to a n)) (at / m * m + at % m) [] ≡ get_or access (at / m) [] ++ get_or (words_up_to a n) (at % m) [] =
    ap (λ (l : ℕ). get_or (each_with (λ (u v : List ℕ). u ++ v) access (words_up_to a n)) (at / m * l + at % m) []) (sym long)
    ∙ each_at (λ (u v : List ℕ). u ++ v) access (words_up_to a n) (at / m) (at % m) [] [] [] first (rw long second) in
    (first, second, ap (λ (k : ℕ). get_or (each_with (λ (u v : List ℕ). u ++ v) access (words_up_to a n)) k []) (sym (div-add-mod' at m)) ∙ e)
