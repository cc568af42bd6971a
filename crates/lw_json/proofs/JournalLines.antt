-- The value of a line, as a test.
use Rattle.std.proofs.Common.{◌≡◌, ◌∙◌, inl, inr, ℕ, List, Bool, Some, None, if◌then◌else◌, ap}
use Rattle.std.specs.Str.{IsUtf8, is_utf8}
use Rattle.std.proofs.lemmas.Bool.{cases_Bool}
use Rattle.std.proofs.lemmas.Str.{IsUtf8-from_is_utf8, is_utf8-from_IsUtf8}
use Rattle.serde_json.specs.Data.{Data}
use Rattle.serde_json.specs.Read.{read}
use Rattle.lw_json.specs.Formats.{json_in}

pub json_in-some : (bytes : List ℕ) (d : Data) → IsUtf8 bytes → read bytes ≡ Some d → json_in bytes ≡ Some d
unfolding json_in
json_in-some bytes d text is = ap (λ (b : Bool). if b then read bytes else None) (is_utf8-from_IsUtf8 bytes text) ∙ is

pub json_in-none : (bytes : List ℕ) → (IsUtf8 bytes → read bytes ≡ None) → json_in bytes ≡ None
unfolding json_in
json_in-none bytes none =
    elim (cases_Bool (is_utf8 bytes)) [
      | inl text ↦ ap (λ (b : Bool). if b then read bytes else None) text ∙ none (IsUtf8-from_is_utf8 bytes text)
      | inr other ↦ ap (λ (b : Bool). if b then read bytes else None) other
    ]
