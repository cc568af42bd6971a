-- Words as texts: the names of their letters, with blanks between them.
use Rattle.std.specs.Prelude.{◌≡◌, ℕ, ◌+◌, ◌==◌, List, [], Bool, not, length, Option, Contains, slice_index_or, filter}
use Rattle.std.specs.List.{All, slice_split}
use Rattle.lw_words.specs.First.{FailsFirst}
use Rattle.lw_words.specs.Word.{number_of}
use Rattle.lw_json.specs.Formats.{each_of}

abbrev pub is_some_text : List ℕ → Bool
is_some_text text = not (length text == 0)

-- the names in a text: what stands between its blanks, as many as these are
abbrev pub names_in : List ℕ → List (List ℕ)
names_in text = filter is_some_text (slice_split (λ c. c == 32) text)

-- the word of these names, where each is a letter's
abbrev pub word_of_names : (letters names : List (List ℕ)) → Option (List ℕ)
word_of_names letters names = each_of (λ name. number_of name letters) names

-- the words of these texts, where all their names are letters'
abbrev pub words_of_texts : (letters texts : List (List ℕ)) → Option (List (List ℕ))
words_of_texts letters texts = each_of (λ text. word_of_names letters (names_in text)) texts

-- all names in a text are letters'
abbrev pub HasLetters : List (List ℕ) → List ℕ → Type 0
HasLetters letters text = All (Contains letters) (names_in text)

-- the name at this place, counted from 1, is the first that is no letter's
abbrev pub IsUnknownIn : (letters names : List (List ℕ)) → ℕ → Type 0
IsUnknownIn letters names place = (j : ℕ) × (place ≡ j + 1) × FailsFirst (Contains letters) names j

-- the name at a place of the word of a number, both counted from 1, is the first of all that is no letter's
abbrev pub IsFirstUnknown : (letters texts : List (List ℕ)) → (word place : ℕ) → Type 0
IsFirstUnknown letters texts word place =
    (i : ℕ) × (word ≡ i + 1) × FailsFirst (HasLetters letters) texts i × IsUnknownIn letters (names_in (slice_index_or texts i [])) place
