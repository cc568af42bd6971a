-- What a batch needs before its words are handed out.
use Rattle.std.specs.Prelude.{◌≡◌, ◌⊎◌, ℕ, ◌<◌, ◌≤◌, List, [], ◌∷◌, ◌++◌, length, Contains}
use Rattle.std.specs.List.{All, AllPairs}
use Rattle.std.specs.Ordering.{nat_cmp, ordering_then}
use Rattle.std.specs.Cmp.Lexicographic.{slice_cmp}
use Rattle.std.specs.declared.cmp.Ordering.{Ordering}
use Rattle.lw_words.specs.Word.{answers_of, IsPrefix}
use Rattle.lw_words.specs.declared.kept.KeptAnswer.{KeptAnswer}
use Rattle.lw_cache.specs.Known.{IsKnown}
use Rattle.lw_desk.specs.Step.{word_at_place}
use Rattle.lw_desk.specs.bodies.Board.{IsAtHand, IsLeast, BeginsOne, AreInOrder, AreWhole, letters_of}

-- the words of the batch that aren't known lie at hand, and their places are listed
pub record IsGathered (kept : List KeptAnswer) (batch words : List (List ℕ)) (places : List ℕ) : Type 0 where
  pub size : length words ≡ length batch
  pub at_hand : All (IsAtHand batch words) places
  pub unknown : All (λ p. ¬ IsKnown (answers_of kept) (word_at_place batch p)) places
  pub rising : AllPairs (λ p q. p < q) places
  pub count : length places ≤ length batch
  pub covered : (p : ℕ) → p < length batch → Contains places p ⊎ IsKnown (answers_of kept) (word_at_place batch p)

-- letter by letter: the first that differs is smaller, or the first word ends before the second
abbrev pub IsUpTo : List ℕ → List ℕ → Type 0
IsUpTo [] v = Unit {0}
IsUpTo (x ∷ u) [] = ⊥
IsUpTo (x ∷ u) (y ∷ v) = (x < y) ⊎ ((x ≡ y) × IsUpTo u v)

-- by the words, letter by letter, and of equal words the greater place first: as a comparison, and what it says
abbrev pub by_words : List (List ℕ) → ℕ → ℕ → Ordering
by_words words p q = ordering_then (slice_cmp nat_cmp (word_at_place words p) (word_at_place words q)) (nat_cmp q p)

abbrev pub StandsBefore : List (List ℕ) → ℕ → ℕ → Type 0
StandsBefore words p q = IsUpTo (word_at_place words p) (word_at_place words q) × (word_at_place words p ≡ word_at_place words q → q ≤ p)

abbrev pub AreByWords : List (List ℕ) → List ℕ → Type 0
AreByWords words places = AllPairs (StandsBefore words) places

-- the word of the first of these places begins with that of p
abbrev pub BeginsNext : List (List ℕ) → ℕ → List ℕ → Type 0
BeginsNext words p [] = ⊥
BeginsNext words p (q ∷ ps) = IsPrefix (word_at_place words p) (word_at_place words q)

-- of the places those whose words don't begin the next one's, the last ones first
abbrev pub AreWholeOf : List (List ℕ) → List ℕ → List ℕ → Type 0
AreWholeOf words [] whole = whole ≡ []
AreWholeOf words (p ∷ ps) whole =
    (BeginsNext words p ps × AreWholeOf words ps whole) ⊎ ((¬ BeginsNext words p ps) × ((rest : List ℕ) × (whole ≡ rest ++ p ∷ []) × AreWholeOf words ps rest))

-- the word of the first is longer; or they are equally long, and its place isn't greater
abbrev pub NotAfter : List (List ℕ) → ℕ → ℕ → Type 0
NotAfter words p q = (length (word_at_place words q) < length (word_at_place words p)) ⊎ ((length (word_at_place words p) ≡ length (word_at_place words q)) × (p ≤ q))

-- each is not after those behind it
abbrev pub ComeBefore : List (List ℕ) → List ℕ → Type 0
ComeBefore words places = AllPairs (NotAfter words) places

-- the words that have to be asked lie at hand; their places stand first ones first, and their letters are counted
pub record IsReady (kept : List KeptAnswer) (batch words : List (List ℕ)) (places : List ℕ) (letters : ℕ) : Type 0 where
  pub size : length words ≡ length batch
  pub at_hand : All (IsAtHand batch words) places
  pub unknown : All (λ p. ¬ IsKnown (answers_of kept) (word_at_place batch p)) places
  pub least : All (IsLeast batch) places
  pub order : AreInOrder batch places
  pub whole : AreWhole batch places
  pub count : length places ≤ length batch
  pub letters_sum : letters_of batch places ≡ letters
  pub covered : (p : ℕ) → p < length batch → BeginsOne batch places (word_at_place batch p) ⊎ IsKnown (answers_of kept) (word_at_place batch p)
