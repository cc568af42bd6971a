-- Bytes as printable text can be read back.
use Rattle.std.proofs.Common.{◌≡◌, ◌<◌, ◌+◌, ◌*◌, ◌/◌, ◌%◌, ◌==◌, ◌&&◌, not, nat_le, ℕ, Bool, true, false, List, [], ◌∷◌, ◌++◌, codes, if◌then◌else◌, slice_index, unwrap_or, refl, sym, ap, ap₂, ◌∙◌, arith}
use Rattle.std.proofs.lemmas.Bool.{and_parts, eqb-true, leb-true, not-true, true≢false}
use Rattle.std.proofs.lemmas.List.Elements.{All-append, All-cons, All-get_or, All-head, All-nil, All-tail}
use Rattle.std.specs.List.{All, flat_map}
use Rattle.hex.specs.Hex.{encode_lower, encode_with, hex_digit_value, lower_digits}
use Rattle.hex.proofs.HexLemmas.{IsDigits-lower_digits}
use Rattle.lw_log.specs.Lines.{IsPrintable, escaped, is_plain}

-- the three forms of a byte
by_tests : (P : List ℕ → Type 0) (b : ℕ) (plain slash : Bool) → is_plain b ≡ plain → (b == 92) ≡ slash → (IsPrintable b → (b == 92) ≡ false → P (b ∷ [])) → (b ≡ 92 → P (92 ∷ 92 ∷ []))
    → P (92 ∷ 120 ∷ slice_index lower_digits (b / 16) ∷ slice_index lower_digits (b % 16) ∷ []) → P (if plain then b ∷ [] else if slash then codes "\\\\" else codes "\\x" ++ encode_lower (b ∷ []))
unfolding encode_with
by_tests P b true slash is same plain twice digits =
    let parts = and_parts (nat_le 32 b && nat_le b 126) (not (b == 92)) is in
    let bounds = and_parts (nat_le 32 b) (nat_le b 126) parts.0 in
    plain (leb-true 32 b bounds.0, leb-true b 126 bounds.1) (not-true (b == 92) parts.1)
by_tests P b false true is same plain twice digits = twice (eqb-true b 92 same)
by_tests P b false false is same plain twice digits = digits

by_form : (P : List ℕ → Type 0) (b : ℕ) → (IsPrintable b → (b == 92) ≡ false → P (b ∷ [])) → (b ≡ 92 → P (92 ∷ 92 ∷ []))
    → P (92 ∷ 120 ∷ slice_index lower_digits (b / 16) ∷ slice_index lower_digits (b % 16) ∷ []) → P (escaped b)
by_form P b plain twice digits = by_tests P b (is_plain b) (b == 92) refl refl plain twice digits

-- ---- printable

abbrev all_printable : List ℕ → Bool
all_printable [] = true
all_printable (x ∷ xs) = nat_le 32 x && nat_le x 126 && all_printable xs

printable_by_test : (xs : List ℕ) → all_printable xs ≡ true → All IsPrintable xs
printable_by_test [] is = All-nil IsPrintable
printable_by_test (x ∷ xs) is =
    let parts = and_parts (nat_le 32 x && nat_le x 126) (all_printable xs) is in
    let bounds = and_parts (nat_le 32 x) (nat_le x 126) parts.0 in
    All-cons IsPrintable x xs (leb-true 32 x bounds.0, leb-true x 126 bounds.1) (printable_by_test xs parts.1)

digit_printable : (d : ℕ) → d < 16 → IsPrintable (slice_index lower_digits d)
digit_printable d lt = All-get_or IsPrintable lower_digits d 0 lt (printable_by_test lower_digits refl)

piece : (b : ℕ) → b < 256 → All IsPrintable (escaped b)
piece b lt =
    let high = slice_index lower_digits (b / 16) in
    let low = slice_index lower_digits (b % 16) in
    let high_is : IsPrintable high = digit_printable (b / 16) (omega arith) in
    let low_is : IsPrintable low = digit_printable (b % 16) (omega arith) in
    let digits = All-cons IsPrintable high (low ∷ []) high_is (All-cons IsPrintable low [] low_is (All-nil IsPrintable)) in
    by_form (All IsPrintable) b (λ printable other. All-cons IsPrintable b [] printable (All-nil IsPrintable))
    (λ is. printable_by_test (92 ∷ 92 ∷ []) refl)
    (All-append IsPrintable (92 ∷ 120 ∷ []) (high ∷ low ∷ []) (printable_by_test (92 ∷ 120 ∷ []) refl) digits)

pub printable : (bytes : List ℕ) → All (λ b. b < 256) bytes → All IsPrintable (flat_map escaped bytes)
printable [] each = All-nil IsPrintable
printable (b ∷ bytes) each =
    All-append IsPrintable (escaped b) (flat_map escaped bytes) (piece b (All-head (λ b. b < 256) b bytes each))
    (printable bytes (All-tail (λ b. b < 256) b bytes each))

-- ---- read back

abbrev head : List ℕ → ℕ
head [] = 0
head (x ∷ xs) = x

abbrev tail : List ℕ → List ℕ
tail [] = []
tail (x ∷ xs) = xs

abbrev is_cons : List ℕ → Bool
is_cons [] = false
is_cons (x ∷ xs) = true

abbrev digit : ℕ → ℕ
digit c = unwrap_or (hex_digit_value c) 0

-- the byte that stands first, by whether a backslash does, and whether two do
abbrev first_after : Bool → List ℕ → ℕ
first_after true xs = 92
first_after false xs = digit (head (tail (tail xs))) * 16 + digit (head (tail (tail (tail xs))))

abbrev first_by : Bool → List ℕ → ℕ
first_by true xs = first_after (head (tail xs) == 92) xs
first_by false xs = head xs

abbrev first : List ℕ → ℕ
first xs = first_by (head xs == 92) xs

-- what stands behind it
abbrev rest_after : Bool → List ℕ → List ℕ
rest_after true xs = tail (tail xs)
rest_after false xs = tail (tail (tail (tail xs)))

abbrev rest_by : Bool → List ℕ → List ℕ
rest_by true xs = rest_after (head (tail xs) == 92) xs
rest_by false xs = tail xs

abbrev rest : List ℕ → List ℕ
rest xs = rest_by (head xs == 92) xs

first_of : (b : ℕ) → b < 256 → (more : List ℕ) → first (escaped b ++ more) ≡ b
first_of b lt more =
    let high = ap (λ o. unwrap_or o 0) (IsDigits-lower_digits (b / 16) (omega arith)) in
    let low = ap (λ o. unwrap_or o 0) (IsDigits-lower_digits (b % 16) (omega arith)) in
    let whole : b / 16 * 16 + b % 16 ≡ b = omega arith in
    by_form (λ e. first (e ++ more) ≡ b) b (λ printable other. ap (λ (p : Bool). first_by p (b ∷ more)) other) (λ is. sym is)
    (ap₂ (λ (h l : ℕ). h * 16 + l) high low ∙ whole)

rest_of : (b : ℕ) (more : List ℕ) → rest (escaped b ++ more) ≡ more
rest_of b more = by_form (λ e. rest (e ++ more) ≡ more) b (λ printable other. ap (λ (p : Bool). rest_by p (b ∷ more)) other) (λ is. refl) refl

starts : (b : ℕ) (more : List ℕ) → is_cons (escaped b ++ more) ≡ true
starts b more = by_form (λ e. is_cons (e ++ more) ≡ true) b (λ printable other. refl) (λ is. refl) refl

pub once : (a b : List ℕ) → All (λ x. x < 256) a → All (λ x. x < 256) b → flat_map escaped a ≡ flat_map escaped b → a ≡ b
once [] [] left right e = refl
once [] (y ∷ b) left right e = absurd (true≢false (sym (starts y (flat_map escaped b)) ∙ sym (ap is_cons e)))
once (x ∷ a) [] left right e = absurd (true≢false (sym (starts x (flat_map escaped a)) ∙ ap is_cons e))
once (x ∷ a) (y ∷ b) left right e =
    let one = first_of x (All-head (λ x. x < 256) x a left) (flat_map escaped a) in
    let other = first_of y (All-head (λ x. x < 256) y b right) (flat_map escaped b) in
    let here : x ≡ y = sym one ∙ (ap first e ∙ other) in
    let there : flat_map escaped a ≡ flat_map escaped b = sym (rest_of x (flat_map escaped a)) ∙ (ap rest e ∙ rest_of y (flat_map escaped b)) in
    ap₂ (λ (z : ℕ) (zs : List ℕ). z ∷ zs) here (once a b (All-tail (λ x. x < 256) x a left) (All-tail (λ x. x < 256) y b right) there)
