-- Texts that are read as words.
use Rattle.std.proofs.Common.{◌≡◌, ℕ, ◌+◌, ◌<◌, List, [], length, map, get_or, slice_get, Some, None, subst, sym}
use Rattle.std.specs.List.{All, AllWithin, Contains}
use Rattle.std.proofs.lemmas.Option.{get_or_from_slice_get, slice_get_within}
use Rattle.lw_words.specs.Word.{number_of}
use Rattle.lw_words.proofs.Lists.{read-map}
use Rattle.lw_words.proofs.NumberLemmas.{name_at_number}
use Rattle.lw_names.proofs.NameLemmas.{lacks_name}
use Rattle.lw_json.proofs.EachLemmas.{fails_here}
use Rattle.lw_wordlist.specs.Words.{HasLetters, IsFirstUnknown, IsUnknownIn, names_in}

-- a name that has a number is in the list, and the number below its length
pub known_by : (letters : List (List ℕ)) (name : List ℕ) (n : ℕ) → number_of name letters ≡ Some n → Contains letters name
known_by letters name n found =
    let at : slice_get letters n ≡ Some name = name_at_number name letters n found in
    (n, slice_get_within letters n name at, get_or_from_slice_get letters n name name at)

pub below_by : (letters : List (List ℕ)) (name : List ℕ) (n : ℕ) → number_of name letters ≡ Some n → n < length letters
below_by letters name n found = slice_get_within letters n name (name_at_number name letters n found)

pub unknown_by : (letters : List (List ℕ)) (name : List ℕ) → number_of name letters ≡ None → ¬ Contains letters name
unknown_by letters name none c = lacks_name letters name none c.0 name c.1 c.2

-- a text with a name that is no letter's
not_letters : (letters names : List (List ℕ)) (place : ℕ) → IsUnknownIn letters names place → ¬ All (Contains letters) names
not_letters letters names place unknown all = let first = unknown.2 in first.fails [] (all unknown.0 [] first.within)

-- the first of all texts that has one
pub first_unknown : {V : Type 0} (v : V → List ℕ) (letters : List (List ℕ)) (xs : List V) (i : ℕ) (x : V) → i < length xs → x ≡ get_or xs i x → AllWithin (HasLetters letters) (map v xs) 0 i → (word place : ℕ) → word ≡ i + 1 → IsUnknownIn letters (names_in (v x)) place → IsFirstUnknown letters (map v xs) word place
first_unknown v letters xs i x lt at before word place is unknown =
    (i, is, fails_here v (HasLetters letters) xs i x lt at (not_letters letters (names_in (v x)) place unknown) before, subst (λ (t : List ℕ). IsUnknownIn letters (names_in t) place) (sym (read-map v xs i x [] lt at)) unknown)
