-- Lines at the front of bytes.
use Rattle.std.proofs.Common.{◌≡◌, ℕ, zero, suc, ◌+◌, ◌<◌, ◌≤◌, ◌==◌, List, [], ◌∷◌, ◌++◌, length, length-take-le, nat_lt, cond, get_or, take, drop, position, Bool, true, false, Option, Some, None, refl, ap, sym, ◌∙◌, subst, arith, add-one, if◌then◌else◌}
use Rattle.std.proofs.lemmas.List.Quantifiers.{position-Some}
use Rattle.std.specs.List.{position_or_len}
use Rattle.std.proofs.lemmas.List.Sums.{fails_before_first}
use Rattle.std.proofs.lemmas.Option.{none-some}
use borrow.Author.Tests.{ltb-false}
use Rattle.lw_outside.specs.Lines.{Split, led_by, lines_of, rest_of, split_bytes}
use Rattle.lw_outside.specs.bodies.Child.{IsFirstLine}

led : ℕ → Split → Split
led b s = led_by b s.lines s.rest

abbrev by_test : Bool → ℕ → Split → Split
by_test t b s = if t then record { lines = [] ∷ s.lines; rest = s.rest } else led_by b s.lines s.rest

split_first : (bs more : List ℕ) (k : ℕ) → k < length bs → (get_or bs k 0 == 10) ≡ true → ((j : ℕ) → j < k → (get_or bs j 0 == 10) ≡ false) → split_bytes (bs ++ more) ≡ record { lines = take k bs ∷ lines_of (drop (suc k) bs ++ more); rest = rest_of (drop (suc k) bs ++ more) }
split_first [] more k lt is misses = absurd (omega arith)
split_first (b ∷ bs) more zero lt is misses = ap (λ (t : Bool). by_test t b (split_bytes (bs ++ more))) is
split_first (b ∷ bs) more (suc k) lt is misses =
    let le : k < length bs = omega arith in
    let first : (b == 10) ≡ false = misses 0 (omega arith) in
    let later : (j : ℕ) → j < k → (get_or bs j 0 == 10) ≡ false = λ j h. misses (suc j) (omega arith) in
    ap (λ (t : Bool). by_test t b (split_bytes (bs ++ more))) first ∙ ap (λ (s : Split). led_by b s.lines s.rest) (split_first bs more k le is later)

no_line : (bs : List ℕ) → ((j : ℕ) → j < length bs → (get_or bs j 0 == 10) ≡ false) → lines_of bs ≡ []
no_line [] misses = refl
no_line (b ∷ bs) misses =
    let first : (b == 10) ≡ false = misses 0 (omega arith) in
    let later : (j : ℕ) → j < length bs → (get_or bs j 0 == 10) ≡ false = λ j h. misses (suc j) (omega arith) in
    ap (λ (t : Bool). (by_test t b (split_bytes bs)).lines) first ∙ ap (λ (ls : List (List ℕ)). (led_by b ls (rest_of bs)).lines) (no_line bs later)

pub line_at : (bs : List ℕ) (k : ℕ) → Some k ≡ position (λ b. b == 10) bs → IsFirstLine (Some (take k bs)) bs
line_at bs k is =
    let h = position-Some (λ b. b == 10) bs k 0 (sym is) in
    let le : k ≤ length bs = omega (arith, h.0) in
    let size : length (take k bs) ≡ k = length-take-le k bs le in
    let P : ℕ → Type 0 = λ n. (n < length bs) × ((more : List ℕ) → split_bytes (bs ++ more) ≡ record { lines = take k bs ∷ lines_of (drop (n + 1) bs ++ more); rest = rest_of (drop (n + 1) bs ++ more) }) in
    subst P (sym size) (h.0, λ more. rw add-one (split_first bs more k h.0 h.1 h.2))

is_past : (t : Bool) (k : ℕ) → ◌≡◌ {A = Option ℕ} None (cond t (Some k) None) → t ≡ false
is_past true k is = absurd (none-some k is)
is_past false k is = refl

pub no_line_at : (bs : List ℕ) → None ≡ position (λ b. b == 10) bs → lines_of bs ≡ []
no_line_at bs is =
    let at : ℕ = position_or_len (λ b. b == 10) bs in
    let past : nat_lt at (length bs) ≡ false = is_past (nat_lt at (length bs)) at is in
    let le : length bs ≤ at = ltb-false at (length bs) past in
    no_line bs (λ j lt. fails_before_first (λ b. b == 10) bs j 0 (omega arith))
