-- The search for access words, as far as it has come.
use Rattle.std.specs.Prelude.{◌≡◌, ℕ, ◌+◌, ◌<◌, ◌⊎◌, Option, Some, None, List, [], ◌∷◌, ◌++◌, length, slice_index_or}
use Rattle.std.specs.declared.cmp.Ordering.TheVariants.{Less}
use Rattle.std.specs.List.{sum_by}
use Rattle.lw_words.specs.Word.{IsWord, shortlex_cmp}
use Rattle.lw_mealy.specs.Machine.{Rows, IsMachine, after, next}

-- the first word comes before the second
abbrev pub Before : List ℕ → List ℕ → Type 0
Before u v = shortlex_cmp u v ≡ Less

-- the words are equal, or the first comes before the second
abbrev pub AtMost : List ℕ → List ℕ → Type 0
AtMost u v = (u ≡ v) ⊎ Before u v

-- one for a state that isn't found
abbrev pub open_at : Option ℕ → ℕ
open_at None = 1
open_at (Some place) = 0

-- the target of the j-th state at a letter has a word that is at most the j-th word and the letter
abbrev pub Closed : Rows → List (List ℕ) → List ℕ → ℕ → ℕ → Type 0
Closed m words states j y = (k : ℕ) × (k < length words)
    × (slice_index_or states k 0 ≡ next m (slice_index_or states j 0) y)
    × AtMost (slice_index_or words k []) (slice_index_or words j [] ++ y ∷ [])

-- words that were found in their order, each leading to its own state,
-- up to the letter x of the i-th word
pub record IsSearch (a : ℕ) (m : Rows) (words : List (List ℕ)) (states : List ℕ)
    (places : List (Option ℕ)) (i x : ℕ) : Type 0 where
  pub machine : IsMachine a m
  pub paired : length words ≡ length states
  pub placed : length places ≡ length m
  pub left : length states + sum_by open_at places ≡ length m
  pub some : 0 < length words
  pub first : slice_index_or words 0 [] ≡ []
  pub letters : (k : ℕ) → k < length words → IsWord a (slice_index_or words k [])
  pub leads : (k : ℕ) → k < length words
      → after m 0 (slice_index_or words k []) ≡ slice_index_or states k 0
  pub state : (k : ℕ) → k < length words → slice_index_or states k 0 < length m
  pub there : (k : ℕ) → k < length words
      → slice_index_or places (slice_index_or states k 0) None ≡ Some k
  pub back : (q k : ℕ) → slice_index_or places q None ≡ Some k
      → (k < length words) × (slice_index_or states k 0 ≡ q)
  pub rising : (j k : ℕ) → j < k → k < length words
      → Before (slice_index_or words j []) (slice_index_or words k [])
  pub closed : (j y : ℕ) → j < i → j < length words → y < a → Closed m words states j y
  pub here : (y : ℕ) → y < x → y < a → i < length words → Closed m words states i y
  pub ahead : i < length words → (k : ℕ) → k < length words
      → Before (slice_index_or words k []) (slice_index_or words i [] ++ x ∷ [])
