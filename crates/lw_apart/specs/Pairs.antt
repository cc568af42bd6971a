-- The words that the H-method wants known, and the pairs of words that it wants known apart.
-- Source: Dorofeeva, El-Fakih and Koufareva (2005); by apartness, as in Vaandrager (2024). The order is this project's.
use Rattle.std.specs.Prelude.{ℕ, ◌+◌, ◌-◌, List, ◌++◌, map, take}
use Rattle.std.specs.List.{flat_map, range_with_len}
use Rattle.lw_words.specs.Word.{Answer}
use Rattle.lw_mealy.specs.Machine.{Rows}
use Rattle.lw_chunks.specs.Middle.{each_with, words_of_length, words_up_to}
use Rattle.lw_apart.specs.Covers.{ApartWhereDifferent}

-- each access word with at most n letters behind it: by the access word, then by the letters in shortlex order
abbrev pub fronts : ℕ → List (List ℕ) → ℕ → List (List ℕ)
fronts a access n = each_with (λ u w. u ++ w) access (words_up_to a n)

abbrev pub WordPair : Type 0
WordPair = List ℕ × List ℕ

-- a word with each access word, in the order of these
abbrev pub with_access : List (List ℕ) → List ℕ → List WordPair
with_access access v = map (λ u. (u, v)) access

-- an access word with the first i and with the first j of n letters behind it, by i, then by j, where i comes before j
abbrev pub along_from : ℕ → List ℕ → List ℕ → ℕ → List WordPair
along_from n u w i = map (λ j. (u ++ take i w, u ++ take j w)) (range_with_len (i + 1) (n - i))

abbrev pub along : ℕ → List ℕ → List ℕ → List WordPair
along n u w = flat_map (along_from n u w) (range_with_len 1 n)

-- each access word with at most n letters behind it, with each access word; and then, of each access word with n letters
-- behind it, any two of its beginnings
abbrev pub pairs : ℕ → List (List ℕ) → ℕ → List WordPair
pairs a access n = flat_map (with_access access) (fronts a access n) ++ flat_map (λ u. flat_map (along n u) (words_of_length a n)) access

-- the words of the pair are known apart where they lead to different states
abbrev pub IsKnownApart : Rows → List Answer → WordPair → Type 0
IsKnownApart h ks pair = ApartWhereDifferent h ks pair.0 pair.1
