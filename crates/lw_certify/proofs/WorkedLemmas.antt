-- The worked case, computed.
use Rattle.std.proofs.Common.{◌≡◌, ◌≢◌, ℕ, zero, suc, ◌<◌, ◌≤◌, List, [], ◌∷◌, ◌++◌, length, get_or, take, inr, refl, sym, ap, ap₂, ◌∙◌, arith, lit<, lit≤}
use Rattle.std.specs.List.{All, AllByRecursion}
use Rattle.std.proofs.lemmas.List.{length-append, length-take-le}
use Rattle.std.proofs.lemmas.List.Elements.{All-from_recursion, recursion_from_All}
use Rattle.lw_words.specs.Word.{Answer, IsWord, IsPrefix}
use Rattle.lw_cache.specs.Known.{IsKnown}
use Rattle.lw_mealy.specs.Machine.{Row, IsMachine, after, answer, out, Gives, Sure}
use Rattle.lw_mealy.specs.Worked.{one, counter_of_three}
use Rattle.lw_certify.specs.Worked.{AsWorked, seven_letters, two_letters}
use Rattle.lw_apart.proofs.Cover.{Apart, IsAccess, IsToldApart}
use Rattle.lw_chunks.proofs.NumberLemmas.{Over}
use Rattle.lw_apart.proofs.Known.{same_on_known}
use Rattle.lw_apart.proofs.Meets.{all_alike}
use Rattle.lw_apart.proofs.Runs.{after_below, over_append, over_take}

one_cell : (q y : ℕ) → q < 3 → All (λ (c : ℕ × ℕ). c.0 < 3) ((q, y) ∷ [])
one_cell q y lt = All-from_recursion (λ (c : ℕ × ℕ). c.0 < 3) ((q, y) ∷ []) (lt, tt)

counter : IsMachine 1 counter_of_three
counter = record {
  some_state = lit< tt;
  complete = All-from_recursion (λ (r : Row). (length r ≡ 1) × All (λ (c : ℕ × ℕ). c.0 < 3) r) counter_of_three
      ((refl, one_cell 1 0 (lit< tt)), ((refl, one_cell 2 0 (lit< tt)), ((refl, one_cell 0 1 (lit< tt)), tt)));
}

given : Gives counter_of_three seven_letters
given = All-from_recursion (λ (k : Answer). answer counter_of_three k.word ≡ k.outs) seven_letters (refl, tt)

given_two : Gives counter_of_three two_letters
given_two = All-from_recursion (λ (k : Answer). answer counter_of_three k.word ≡ k.outs) two_letters (refl, tt)

three : IsWord 1 (0 ∷ 0 ∷ 0 ∷ [])
three = All-from_recursion (λ x. x < 1) (0 ∷ 0 ∷ 0 ∷ []) (lit< tt, (lit< tt, (lit< tt, tt)))

one_not_zero : ◌≡◌ {A = ℕ} 1 0 → ⊥
one_not_zero e = absurd (omega arith)

gap : ¬ Sure 1 one two_letters 2
gap sure =
    let e : answer counter_of_three (0 ∷ 0 ∷ 0 ∷ []) ≡ answer one (0 ∷ 0 ∷ 0 ∷ []) = sure counter_of_three counter (lit≤ tt) given_two (0 ∷ 0 ∷ 0 ∷ []) three in
    one_not_zero (ap (λ (l : List ℕ). get_or l 2 0) e)

-- of a list of zeros each word of one letter that is no longer begins it
begins : (zeros w : List ℕ) → AllByRecursion (λ x. x ≡ 0) zeros → Over 1 w → length w ≤ length zeros → IsPrefix w zeros
begins zeros [] all o le = (zeros, refl)
begins [] (x ∷ w) all o le = absurd (omega (arith, le))
begins (z ∷ zeros) (x ∷ w) all o le =
    let r : IsPrefix w zeros = begins zeros w all.1 o.1 (omega (arith, le)) in
    let same : z ≡ x = omega (arith, all.0, o.0) in
    (r.0, ap₂ (λ (y : ℕ) (ys : List ℕ). y ∷ ys) same r.1)

known : (w : List ℕ) → Over 1 w → length w ≤ 7 → IsKnown seven_letters w
known w o le = inr (0, (lit< tt, tt), begins (0 ∷ 0 ∷ 0 ∷ 0 ∷ 0 ∷ 0 ∷ 0 ∷ []) w (refl, (refl, (refl, (refl, (refl, (refl, (refl, tt))))))) o le)

below_three : (P : ℕ → Type 0) → P 0 → P 1 → P 2 → (q : ℕ) → q < 3 → P q
below_three P p0 p1 p2 zero lt = p0
below_three P p0 p1 p2 (suc zero) lt = p1
below_three P p0 p1 p2 (suc (suc zero)) lt = p2
below_three P p0 p1 p2 (suc (suc (suc q))) lt = absurd (omega (arith, lt))

-- the outputs at a place differ
at_place : (place : ℕ) (u v : List ℕ) → get_or u place 0 ≢ get_or v place 0 → u ≢ v
at_place place u v n e = n (ap (λ (l : List ℕ). get_or l place 0) e)

zero_not_one : ◌≡◌ {A = ℕ} 0 1 → ⊥
zero_not_one e = absurd (omega arith)

-- two letters tell any two states of the counter apart
differ : (p q : ℕ) → p < 3 → q < 3 → p ≢ q → out counter_of_three p (0 ∷ 0 ∷ []) ≢ out counter_of_three q (0 ∷ 0 ∷ [])
differ p q lp lq = below_three (λ p. p ≢ q → out counter_of_three p (0 ∷ 0 ∷ []) ≢ out counter_of_three q (0 ∷ 0 ∷ [])) (from_0 q lq) (from_1 q lq) (from_2 q lq) p lp
  where
    From : ℕ → ℕ → Type 0
    From p q = p ≢ q → out counter_of_three p (0 ∷ 0 ∷ []) ≢ out counter_of_three q (0 ∷ 0 ∷ [])

    from_0 : (q : ℕ) → q < 3 → From 0 q
    from_0 = below_three (From 0) (λ n. absurd (n refl)) (λ n. at_place 1 _ _ zero_not_one) (λ n. at_place 0 _ _ zero_not_one)

    from_1 : (q : ℕ) → q < 3 → From 1 q
    from_1 = below_three (From 1) (λ n. at_place 1 _ _ one_not_zero) (λ n. absurd (n refl)) (λ n. at_place 0 _ _ zero_not_one)

    from_2 : (q : ℕ) → q < 3 → From 2 q
    from_2 = below_three (From 2) (λ n. at_place 0 _ _ one_not_zero) (λ n. at_place 0 _ _ one_not_zero) (λ n. absurd (n refl))

-- the words 0, 1 and 2 letters long lead to the states
abbrev at : ℕ → List ℕ
at q = get_or ([] ∷ (0 ∷ []) ∷ (0 ∷ 0 ∷ []) ∷ []) q []

-- such a word is no longer than two letters
record Leads (q : ℕ) : Type 0 where
  over : Over 1 (at q)
  short : length (at q) ≤ 2
  leads : after counter_of_three 0 (at q) ≡ q

leads : (q : ℕ) → q < 3 → Leads q
leads = below_three Leads
    (record { over = tt; short = lit≤ tt; leads = refl })
    (record { over = (lit< tt, tt); short = lit≤ tt; leads = refl })
    (record { over = (lit< tt, (lit< tt, tt)); short = lit≤ tt; leads = refl })

access : IsAccess 1 counter_of_three at
access = record { root = refl; over = λ q lt. (leads q lt).over; leads = λ q lt. (leads q lt).leads }

apart : (u v : List ℕ) → Over 1 u → Over 1 v → length u ≤ 5 → length v ≤ 5
    → after counter_of_three 0 u ≢ after counter_of_three 0 v → Apart counter_of_three (IsKnown seven_letters) u v
apart u v ou ov lu lv n = (
  0 ∷ 0 ∷ [],
  known (u ++ 0 ∷ 0 ∷ []) (over_append 1 u (0 ∷ 0 ∷ []) ou (lit< tt, (lit< tt, tt))) (omega (arith, length-append u (0 ∷ 0 ∷ []), lu)),
  known (v ++ 0 ∷ 0 ∷ []) (over_append 1 v (0 ∷ 0 ∷ []) ov (lit< tt, (lit< tt, tt))) (omega (arith, length-append v (0 ∷ 0 ∷ []), lv)),
  differ (after counter_of_three 0 u) (after counter_of_three 0 v) (after_below 1 counter_of_three 0 u counter (lit< tt) ou) (after_below 1 counter_of_three 0 v counter (lit< tt) ov) n,
)

told : IsToldApart 1 counter_of_three at 2 (IsKnown seven_letters)
told = record {
  bare = λ q lq mid o le. known (at q ++ mid) (over_append 1 (at q) mid (leads q lq).over o) (omega (arith, length-append (at q) mid, (leads q lq).short, le));
  homes = λ s q ls lq mid o le n. apart (at s) (at q ++ mid) (leads s ls).over (over_append 1 (at q) mid (leads q lq).over o)
      (omega (arith, (leads s ls).short))
      (omega (arith, length-append (at q) mid, (leads q lq).short, le))
      (λ e. n (sym e ∙ (leads s ls).leads));
  ways = λ q lq mid o len i j some lo hi n. apart (at q ++ take i mid) (at q ++ take j mid)
      (over_append 1 (at q) (take i mid) (leads q lq).over (over_take 1 i mid o))
      (over_append 1 (at q) (take j mid) (leads q lq).over (over_take 1 j mid o))
      (omega (arith, length-append (at q) (take i mid), length-take-le i mid (omega (arith, len, lo, hi)), (leads q lq).short, lo, hi))
      (omega (arith, length-append (at q) (take j mid), length-take-le j mid (omega (arith, len, hi)), (leads q lq).short, hi))
      n;
}

fixed : Sure 1 counter_of_three seven_letters 2
fixed m machine few gives w word =
    all_alike 1 counter_of_three m at 2 (IsKnown seven_letters) counter machine few access told
    (λ u is. same_on_known m counter_of_three seven_letters u gives given is) w (recursion_from_All (λ x. x < 1) w word)

pub as_worked : AsWorked
as_worked = record { machine = counter; given = given; fixed = fixed; gap = gap }
