-- Texts that spell numbers of a range.
use Rattle.std.proofs.Common.{◌≡◌, ◌∙◌, ℕ, ◌<◌, ◌^◌, ◌&&◌, List, Bool, true, false, refl, sym, ap}
use Rattle.std.specs.Prelude.{nat_le}
use Rattle.std.specs.Str.Parse.{IsNumeral, digits_value, without_leading_plus}
use Rattle.std.proofs.lemmas.Bool.{le-leb, leb-true}
use Rattle.clap.proofs.ValueTestLemmas.{Accepts-accepts, accepts-Accepts}
use Rattle.clap.proofs.WalkLemmas.{both}
use Rattle.clap.specs.ValueTests.{is_unsigned_in}
use Rattle.clap.specs.Values.{Accepts}
use Rattle.clap.specs.declared.builder.value_parser.ValueParser.TheVariants as vp

-- two tests that say the same
same_tests : (a b : Bool) → (a ≡ true → b ≡ true) → (b ≡ true → a ≡ true) → a ≡ b
same_tests true true there back = refl
same_tests true false there back = sym (there refl)
same_tests false true there back = back refl
same_tests false false there back = refl

abbrev pub in_range : ℕ → ℕ → ℕ → Bool
in_range low high n = nat_le low n && nat_le n high

-- a number that was read is in the range exactly where its text is
pub in_range_is : (low high : ℕ) (text : List ℕ) → IsNumeral 10 (without_leading_plus text) → digits_value 10 (without_leading_plus text) < 2 ^ 64
    → in_range low high (digits_value 10 (without_leading_plus text)) ≡ is_unsigned_in low high text
in_range_is low high text numeral small =
    let n = digits_value 10 (without_leading_plus text) in
    same_tests (in_range low high n) (is_unsigned_in low high text)
    (λ e. let two = both (nat_le low n) (nat_le n high) e in Accepts-accepts false (vp.Unsigned low high) text (numeral, small, leb-true _ _ two.0, leb-true _ _ two.1))
    (λ e. let h : Accepts false (vp.Unsigned low high) text = accepts-Accepts false (vp.Unsigned low high) text e in joined (nat_le low n) (nat_le n high) (le-leb _ _ h.2) (le-leb _ _ h.3))
  where
    joined : (a b : Bool) → a ≡ true → b ≡ true → (a && b) ≡ true
    joined true b one two = two
    joined false b one two = one

-- a text that was not read as a number is in no range
pub unread : (low high : ℕ) (text : List ℕ) → ¬ (IsNumeral 10 (without_leading_plus text) × (digits_value 10 (without_leading_plus text) < 2 ^ 64)) → is_unsigned_in low high text ≡ false
unread low high text other = go (is_unsigned_in low high text) refl
  where
    go : (b : Bool) → is_unsigned_in low high text ≡ b → is_unsigned_in low high text ≡ false
    go true e = let h : Accepts false (vp.Unsigned low high) text = accepts-Accepts false (vp.Unsigned low high) text e in absurd (other (h.0, h.1))
    go false e = e

-- the number that was read of a text is in the range where the text is
pub read_in : (low high : ℕ) (text : List ℕ) (n : ℕ) → (IsNumeral 10 (without_leading_plus text) × (digits_value 10 (without_leading_plus text) < 2 ^ 64)) × (n ≡ digits_value 10 (without_leading_plus text)) → in_range low high n ≡ is_unsigned_in low high text
read_in low high text n p = ap (λ (m : ℕ). in_range low high m) p.1 ∙ in_range_is low high text p.0.0 p.0.1
