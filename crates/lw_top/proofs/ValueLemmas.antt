-- Numbers that clap has read, and kinds of errors.
use Rattle.std.proofs.Common.{◌≡◌, ◌∙◌, ℕ, ◌<◌, ◌^◌, ◌&&◌, List, [], ◌∷◌, Bool, true, false, Option, Some, None, Ok, Err, Result, if◌then◌else◌, inl, inr, refl, sym, ap}
use Rattle.std.specs.Prelude.{nat_le, option_and_then}
use Rattle.std.specs.Str.Parse.{IsNumeral, ParsesUnsigned, digits_value, without_leading_plus}
use Rattle.std.proofs.lemmas.Bool.{le-leb, leb-true}
use Rattle.clap.proofs.ValueTestLemmas.{Accepts-accepts, accepts-Accepts}
use Rattle.clap.proofs.WalkLemmas.{both}
use Rattle.clap.specs.Kinds.{HasKind, Kinds}
use Rattle.clap.specs.Matches.{ReadsOne}
use Rattle.clap.specs.ValueTests.{is_unsigned_in}
use Rattle.clap.specs.Values.{Accepts, kind_of}
use Rattle.clap.specs.declared.builder.value_parser.ValueParser.TheVariants as vp
use Rattle.clap.specs.declared.error.Error.{Error}
use Rattle.lw_top.proofs.RangeLemmas.{in_range_is, unread}
use Rattle.lw_top.specs.CommandLine.{is_faultless, number_in_range, refusal_of}
use Rattle.lw_top.specs.declared.ranges.Range.{Range}
use Rattle.lw_top.specs.declared.values.ArgumentStop.{ArgumentStop}
use Rattle.lw_top.specs.declared.values.ArgumentStop.TheVariants.{NoMemory, Usage}

-- the number that was read of a text, within a range
pub reads_number : {E : Type 0} (G : List ℕ → Result ℕ E → Type 0) → ((u : List ℕ) (x : Result ℕ E) → G u x → ParsesUnsigned 64 10 u x) → (range : Range) (t : Option (List ℕ)) (r : Option ℕ)
    → (t ≡ None → r ≡ None) → ((u : List ℕ) → t ≡ Some u → ReadsOne G u r)
    → option_and_then (λ n. if nat_le range.low n && nat_le n range.high then Some n else None) r ≡ number_in_range range t
reads_number G only range None r none some = ap (option_and_then (λ n. if nat_le range.low n && nat_le n range.high then Some n else None)) (none refl)
reads_number {E = E} G only range (Some u) r none some = go r (some u refl)
  where
    go : (o : Option ℕ) → ReadsOne {T = ℕ} {E = E} G u o → option_and_then (λ n. if nat_le range.low n && nat_le n range.high then Some n else None) o ≡ number_in_range range (Some u)
    go None h = ap (λ (b : Bool). if b then Some (digits_value 10 (without_leading_plus u)) else None) (sym (unread range.low range.high u (only u (Err h.0) h.1)))
    go (Some v) h =
        let p = only u (Ok v) h in
        ap (λ (n : ℕ). if nat_le range.low n && nat_le n range.high then Some n else None) p.1
        ∙ ap (λ (b : Bool). if b then Some (digits_value 10 (without_leading_plus u)) else None) (in_range_is range.low range.high u p.0.0 p.0.1)

-- an error that isn't memory's is a fault
pub faulty : (kinds : Kinds) (e : Error) → HasKind kinds e → refusal_of (kind_of e) ≡ Usage → is_faultless kinds ≡ false
faulty [] e h is =
    elim h as (λ _. is_faultless [] ≡ false) [
      | inl memory ↦ let wrong : NoMemory ≡ Usage = ap refusal_of (sym memory) ∙ is in absurd (cc)
      | inr among ↦ absurd among
    ]
faulty (k ∷ ks) e h is = refl

-- the reason in a refusal
pub stop_is : {V : Type 0} (one : ArgumentStop) {two : ArgumentStop} → ◌≡◌ {A = Result V ArgumentStop} (Err one) (Err two) → one ≡ two
stop_is one e = cc
