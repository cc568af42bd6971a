-- How a table is closed and a word searched, one step at a time, and the laws on both.
use Rattle.std.proofs.Common.{◌≡◌, ℕ, zero, suc, ◌+◌, ◌-◌, ◌<◌, ◌≤◌, Bool, true, false, cond, List, [], ◌∷◌, ◌++◌, length, Option, Some, None, option_map, unwrap_or, nat_lt, refl, ap, sym, ◌∙◌, subst, arith, length-append}
use Rattle.std.proofs.lemmas.Bool.Decides.{nat_tests}
use Rattle.lw_mealy.specs.Machine.{Rows}
use Rattle.lw_plain.specs.Table.{PlainTable, Search, first_new, close, with_access_word, search_cut, halved, middle_of}
use Rattle.lw_plain.specs.Laws.{IsBetween, CrowdIsFull, SearchFinds}

pub close_done : (a : ℕ) (m : Rows) (n : ℕ) (t : PlainTable) → first_new a m t ≡ None → close a m n t ≡ t
close_done a m zero t is = refl
close_done a m (suc n) t is = ap (λ (o : Option (List ℕ)). unwrap_or (option_map (λ r. close a m n (with_access_word a t r)) o) t) is

pub close_more : (a : ℕ) (m : Rows) (n : ℕ) (t : PlainTable) (r : List ℕ) → first_new a m t ≡ Some r → close a m (suc n) t ≡ close a m n (with_access_word a t r)
close_more a m n t r is = ap (λ (o : Option (List ℕ)). unwrap_or (option_map (λ r. close a m n (with_access_word a t r)) o) t) is

-- one access word more, while a table is closed
pub closing_on : (a : ℕ) (m : Rows) (most count : ℕ) (whole t : PlainTable) (w : List ℕ) → count < most → first_new a m t ≡ Some w → close a m (most - count) t ≡ whole
    → close a m (most - (count + 1)) (with_access_word a t w) ≡ whole
closing_on a m most count whole t w lt new is =
    let more : most - count ≡ suc (most - (count + 1)) = omega arith in
    sym (close_more a m (most - (count + 1)) t w new) ∙ (ap (λ (n : ℕ). close a m n t) (sym more) ∙ is)

Full : ℕ → Rows → ℕ → PlainTable → List ℕ → Type 0
Full a m n t r = first_new a m (close a m n t) ≡ Some r → length (close a m n t).access ≡ length t.access + n

full_by : (a : ℕ) (m : Rows) (n : ℕ) (t : PlainTable) (r : List ℕ) (found : Option (List ℕ)) → first_new a m t ≡ found
    → ((s : List ℕ) → first_new a m (close a m n (with_access_word a t s)) ≡ Some r → length (close a m n (with_access_word a t s)).access ≡ length (with_access_word a t s).access + n)
    → first_new a m (close a m (suc n) t) ≡ Some r → length (close a m (suc n) t).access ≡ length t.access + suc n
full_by a m n t r None is less new =
    let same = close_done a m (suc n) t is in
    let here : first_new a m t ≡ Some r = subst (λ (now : PlainTable). first_new a m now ≡ Some r) same new in
    cc
full_by a m n t r (Some s) is less new =
    let same = close_more a m n t s is in
    let here = less s (subst (λ (now : PlainTable). first_new a m now ≡ Some r) same new) in
    let long : length (close a m (suc n) t).access ≡ length (close a m n (with_access_word a t s)).access = ap (λ (now : PlainTable). length now.access) same in
    omega (arith, here, long, length-append t.access (s ∷ []))

pub crowd_is_full : CrowdIsFull
crowd_is_full a m zero t r new = omega arith
crowd_is_full a m (suc n) t r new = full_by a m n t r (first_new a m t) refl (λ s. crowd_is_full a m n (with_access_word a t s) r) new

-- the search, one step at a time
pub search_done : (agrees : ℕ → Bool) (n : ℕ) (s : Search) → s.high ≤ s.low + 1 → search_cut agrees n s ≡ s
search_done agrees zero s few = refl
search_done agrees (suc n) s few =
    let test : nat_lt 1 (s.high - s.low) ≡ false = grind (arith, nat_tests) in
    ap (λ (b : Bool). cond b (search_cut agrees n (halved agrees s)) s) test

pub search_more : (agrees : ℕ → Bool) (n : ℕ) (s : Search) → s.low + 1 < s.high → search_cut agrees (suc n) s ≡ search_cut agrees n (halved agrees s)
search_more agrees n s more =
    let test : nat_lt 1 (s.high - s.low) ≡ true = grind (arith, nat_tests) in
    ap (λ (b : Bool). cond b (search_cut agrees n (halved agrees s)) s) test

-- what is left once the middle was tried
Half : (ℕ → Bool) → ℕ → Search → Bool → Type 0
Half agrees n s here =
    let half : Search = record { low = cond here s.low (middle_of s); high = cond here (middle_of s) s.high; tried = s.tried ++ middle_of s ∷ [] } in
    IsBetween agrees half × (half.high ≤ half.low + n)

half_by : (agrees : ℕ → Bool) (n : ℕ) (s : Search) (here : Bool) → agrees (middle_of s) ≡ here → s.low + 1 < s.high → IsBetween agrees s → s.high ≤ s.low + suc n → Half agrees n s here
unfolding Half
half_by agrees n s true is more between few =
    let above : s.low < middle_of s = omega arith in
    let below : middle_of s < s.high = omega arith in
    (record { order = above; differs = between.differs; agree = is }, omega arith)
half_by agrees n s false is more between few =
    let above : s.low < middle_of s = omega arith in
    let below : middle_of s < s.high = omega arith in
    (record { order = below; differs = is; agree = between.agree }, omega arith)

Found : (ℕ → Bool) → Search → Type 0
Found agrees t = IsBetween agrees t × (t.high ≡ t.low + 1)

finds_by : (agrees : ℕ → Bool) (n : ℕ) (s : Search) (more : Bool) → nat_lt 1 (s.high - s.low) ≡ more → IsBetween agrees s → s.high ≤ s.low + suc n
    → ((t : Search) → IsBetween agrees t → t.high ≤ t.low + n → IsBetween agrees (search_cut agrees n t) × ((search_cut agrees n t).high ≡ (search_cut agrees n t).low + 1))
    → IsBetween agrees (search_cut agrees (suc n) s) × ((search_cut agrees (suc n) s).high ≡ (search_cut agrees (suc n) s).low + 1)
unfolding Half Found
finds_by agrees n s true test between few less =
    let more : s.low + 1 < s.high = grind (arith, nat_tests) in
    let half : Half agrees n s (agrees (middle_of s)) = half_by agrees n s (agrees (middle_of s)) refl more between few in
    subst (Found agrees) (sym (search_more agrees n s more)) (less (halved agrees s) half.0 half.1)
finds_by agrees n s false test between few less =
    let done : s.high ≤ s.low + 1 = grind (arith, nat_tests) in
    subst (Found agrees) (sym (search_done agrees (suc n) s done)) (between, omega (arith, between.order))

pub search_finds : SearchFinds
search_finds agrees zero s between few = absurd (omega (arith, between.order))
search_finds agrees (suc n) s between few = finds_by agrees n s (nat_lt 1 (s.high - s.low)) refl between few (search_finds agrees n)
