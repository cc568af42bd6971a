-- Names are text.
use Rattle.std.proofs.Common.{◌≡◌, ℕ, ◌<◌, ◌≤◌, List, length, get_or, slice_get, Option, Some, None, refl, subst, arith}
use Rattle.std.specs.Str.{IsUtf8}
use Rattle.std.proofs.lemmas.Str.{IsUtf8-from_ascii}
use Rattle.std.proofs.lemmas.Str.Ascii.{IsAscii-from_all}
use Rattle.std.proofs.lemmas.List.Elements.{All-get_or, All-from_get_or}
use Rattle.std.proofs.lemmas.Option.{slice_get_within, get_or_from_slice_get}
use Rattle.lw_words.specs.Word.{IsName, IsNames, number_of}
use Rattle.lw_words.proofs.NumberLemmas.{name_at_number}

name_is_text : (name : List ℕ) → IsName name → IsUtf8 name
name_is_text name is =
    IsUtf8-from_ascii name (IsAscii-from_all name (All-from_get_or (λ b. b < 128) name 0 (λ i lt.
    let h : (33 ≤ get_or name i 0) × (get_or name i 0 ≤ 126) = All-get_or (λ b. (33 ≤ b) × (b ≤ 126)) name i 0 lt is.printable in
    omega (arith, h.1))))

listed_is_text : (name : List ℕ) (names : List (List ℕ)) (n : ℕ) → IsNames names → number_of name names ≡ Some n → IsUtf8 name
listed_is_text name names n are is =
    let at : slice_get names n ≡ Some name = name_at_number name names n is in
    let lt : n < length names = slice_get_within names n name at in
    name_is_text name (subst IsName (get_or_from_slice_get names n name name at) (All-get_or IsName names n name lt are.each))

none_unless : (o : Option ℕ) → ((n : ℕ) → o ≡ Some n → ⊥) → None ≡ o
none_unless None h = refl
none_unless (Some n) h = absurd (h n refl)

-- bytes that are no text are no name of a list
pub no_text_no_number : (name : List ℕ) (names : List (List ℕ)) → IsNames names → ¬ (IsUtf8 name) → None ≡ number_of name names
no_text_no_number name names are not = none_unless (number_of name names) (λ n is. not (listed_is_text name names n are is))
