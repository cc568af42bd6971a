-- The text of a word is read as the word.
use Rattle.std.proofs.Common.{◌≡◌, ◌∙◌, ℕ, ◌<◌, ◌==◌, List, [], ◌∷◌, ◌++◌, length, map, codes, slice_index_or, append-nil, Some, refl, ap, arith, false}
use Rattle.std.specs.List.{All, flat_map, slice_split}
use Rattle.std.proofs.lemmas.List.{map-id, length-append}
use Rattle.std.proofs.lemmas.List.Elements.{All-head, All-tail}
use Rattle.std.proofs.lemmas.List.Splits.{slice_split_none, slice_split_at}
use Rattle.std.proofs.lemmas.Option.{slice_get-get_or}
use Rattle.lw_words.specs.Word.{IsNames, number_of, IsWord, word_text}
use Rattle.lw_words.proofs.NumberLemmas.{number_at_place}
use Rattle.lw_json.specs.Formats.{each_of, names_of_text, word_of}
use Rattle.lw_json.proofs.RoundTrip.{each_of-map}
use borrow.Author.Tests.{ne_eqb}

-- a text that isn't empty
some_pieces : (text : List ℕ) → 0 < length text → names_of_text text ≡ slice_split (λ c. c == 32) text
some_pieces [] lt = absurd (omega arith)
some_pieces (b ∷ text) lt = refl

module _ (names : List (List ℕ)) (named : IsNames names) where
  abbrev name : ℕ → List ℕ
  name x = slice_index_or names x []

  no_blank : (x : ℕ) → x < length names → All (λ c. (c == 32) ≡ false) (name x)
  no_blank x lt k d below = let h = (named.each x [] lt).printable k d below in ne_eqb (slice_index_or (name x) k d) 32 (λ e. omega arith)

  pieces : (x : ℕ) (w : List ℕ) → IsWord (length names) (x ∷ w) → slice_split (λ c. c == 32) (word_text names (x ∷ w)) ≡ map name (x ∷ w)
  pieces x [] h =
      ap (slice_split (λ c. c == 32)) (append-nil (name x)) ∙ slice_split_none (λ c. c == 32) (name x) (no_blank x (All-head (λ y. y < length names) x [] h))
  pieces x (y ∷ w) h =
      slice_split_at (λ c. c == 32) (name x) 32 (word_text names (y ∷ w)) (no_blank x (All-head (λ z. z < length names) x (y ∷ w) h)) refl
      ∙ ap (λ (l : List (List ℕ)). name x ∷ l) (pieces y w (All-tail (λ z. z < length names) x (y ∷ w) h))

  -- the names in the text of a word
  pub names_back : (w : List ℕ) → IsWord (length names) w → names_of_text (word_text names w) ≡ map name w
  names_back [] h = refl
  names_back (x ∷ w) h =
      let some = (named.each x [] (All-head (λ z. z < length names) x w h)).some in
      let long = length-append (name x) (flat_map (λ y. codes " " ++ name y) w) in
      some_pieces (word_text names (x ∷ w)) (omega arith) ∙ pieces x w h

  numbered : (x : ℕ) → x < length names → number_of (name x) names ≡ Some x
  numbered x lt = number_at_place names x (name x) named.differ (slice_get-get_or names x [] lt)

  pub read_back : (w : List ℕ) → IsWord (length names) w → word_of names (word_text names w) ≡ Some w
  read_back [] h = refl
  read_back (x ∷ w) h =
      ap (each_of (λ n. number_of n names)) (names_back (x ∷ w) h)
      ∙ (each_of-map name (λ n. number_of n names) (λ y. y) (λ y. y < length names) numbered (x ∷ w) h ∙ ap (λ (l : List ℕ). Some l) (map-id (x ∷ w)))
