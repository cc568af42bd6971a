-- Words, their order, names, and answers.
use Rattle.std.specs.Prelude.{◌≡◌, ℕ, ◌<◌, List, ◌++◌, length, [], map, slice_index_or, ◌≢◌, ◌≤◌, position, Option, codes, unwrap_or}
use Rattle.std.specs.List.{All, AllPairs, join_by}
use Rattle.std.specs.Ordering.{nat_cmp, ordering_then}
use Rattle.std.specs.declared.cmp.Ordering.{Ordering}
use Rattle.std.specs.Cmp.{IsTotalOrder}
use Rattle.std.specs.declared.cmp.Ordering.TheVariants.{Equal}
use Rattle.std.specs.Cmp.Lexicographic.{slice_cmp}
use Rattle.lw_words.specs.declared.kept.KeptAnswer.{KeptAnswer}
use Rattle.std.specs.Str.{bytes_eq}

-- Words. Source: the usual ones of formal languages, as in Hopcroft and Ullman (1979).

-- a word over a letters: a list of numbers below a
abbrev pub IsWord : ℕ → List ℕ → Type 0
IsWord a w = All (λ x. x < a) w

-- w is u, followed by some word
abbrev pub IsPrefix : List ℕ → List ℕ → Type 0
IsPrefix u w = (v : List ℕ) × (w ≡ u ++ v)

-- The shortlex order of words. Source: length plus lexicographic order, as in Sipser (1996).

-- the shorter word first, then by the first different letter
abbrev pub shortlex_cmp : List ℕ → List ℕ → Ordering
shortlex_cmp a b = ordering_then (nat_cmp (length a) (length b)) (slice_cmp nat_cmp a b)

-- shortlex is a total order in which only equal words are equal
abbrev pub IsOrderOfWords : Type 0
IsOrderOfWords = IsTotalOrder shortlex_cmp × ((a b : List ℕ) → shortlex_cmp a b ≡ Equal → a ≡ b)

-- Names of letters and of outputs.

-- a name: 1 to 64 bytes, each printable ASCII and no blank
pub record IsName (name : List ℕ) : Type 0 where
  pub some : 0 < length name
  pub short : length name ≤ 64
  pub printable : All (λ b. (33 ≤ b) × (b ≤ 126)) name

-- no two of them are equal
abbrev pub AllDiffer : List (List ℕ) → Type 0
AllDiffer names = AllPairs (λ a b. a ≢ b) names

-- a list of 1 to 4,096 different names
pub record IsNames (names : List (List ℕ)) : Type 0 where
  pub some : 0 < length names
  pub few : length names ≤ 4096
  pub each : All IsName names
  pub differ : AllDiffer names

-- the number of a name: its place in the list
abbrev pub number_of : List ℕ → List (List ℕ) → Option ℕ
number_of name names = position (bytes_eq name) names

-- the number of a name; 0 where it has none
abbrev pub number_in : List (List ℕ) → List ℕ → ℕ
number_in names name = unwrap_or (number_of name names) 0

-- the name with this number; past the end, the empty text
abbrev pub name_at : List (List ℕ) → ℕ → List ℕ
name_at names x = slice_index_or names x []

-- the names of a word's letters, or of outputs
abbrev pub named : List (List ℕ) → List ℕ → List (List ℕ)
named names w = map (name_at names) w

-- the text of a word: the names of its letters, joined by one blank each
abbrev pub word_text : List (List ℕ) → List ℕ → List ℕ
word_text names w = join_by (name_at names) (codes " ") w

-- Answers: a word and the outputs that came, one for each letter. Source: the queries of Angluin (1987), with outputs as in Niese (2003).

pub record Answer : Type 0 where
  pub word : List ℕ
  pub outs : List ℕ

-- what was answered to which word, without where it came from
abbrev pub answer_of : KeptAnswer → Answer
answer_of k = record { word = k.word; outs = k.outs }

-- the answers of a list of recorded answers, in its order
abbrev pub answers_of : List KeptAnswer → List Answer
answers_of kept = map answer_of kept

-- one output for each letter
abbrev pub IsWhole : Answer → Type 0
IsWhole k = length k.outs ≡ length k.word

-- a recorded answer with one output for each letter
abbrev pub IsWholeKept : KeptAnswer → Type 0
IsWholeKept k = IsWhole (answer_of k)

-- a word over a letters with as many outputs
abbrev pub IsAnswer : ℕ → Answer → Type 0
IsAnswer a k = IsWord a k.word × IsWhole k

-- answers to words over a letters
abbrev pub AreAnswers : ℕ → List Answer → Type 0
AreAnswers a ks = All (IsAnswer a) ks

-- the answer with this number; past the end, the answer to the empty word
abbrev pub answer_at : List Answer → ℕ → Answer
answer_at ks i = slice_index_or ks i (record { word = []; outs = [] })
