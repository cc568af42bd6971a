-- What the words of a suite tell of the states of a machine; answers to all of them fix it among those of few states more.
-- Source: Dorofeeva, El-Fakih and Koufareva (2005) on what is enough; by pairs of words, as in Vaandrager (2024).
use Rattle.std.specs.Prelude.{◌≡◌, ◌≢◌, ℕ, ◌+◌, ◌<◌, ◌≤◌, List, [], ◌++◌, length, take, Contains, slice_index_or}
use Rattle.lw_words.specs.Word.{IsWord}
use Rattle.lw_mealy.specs.Machine.{Rows, IsMachine, after, out}
use Rattle.lw_separate.specs.Canonical.{AreLeastAccess}
use Rattle.lw_wp.specs.WpSuite.{IsWpSuite}

-- the suite has both words with a suffix behind them, on which the machine's outputs differ between the states that they lead to
pub record TellsApart (h : Rows) (suite : List (List ℕ)) (u v : List ℕ) : Type 0 where
  pub suffix : List ℕ
  pub one : Contains suite (u ++ suffix)
  pub other : Contains suite (v ++ suffix)
  pub differ : out h (after h 0 u) suffix ≢ out h (after h 0 v) suffix

-- where two words lead to different states, the suite tells them apart
abbrev pub TellsWhereDifferent : Rows → List (List ℕ) → List ℕ → List ℕ → Type 0
TellsWhereDifferent h suite u v = after h 0 u ≢ after h 0 v → TellsApart h suite u v

-- the suite has each least access word with at most k + 1 letters behind it, and tells it from each access word; and it tells
-- any two prefixes of k + 1 letters behind an access word
pub record TellsStates (a : ℕ) (h : Rows) (k : ℕ) (suite : List (List ℕ)) : Type 0 where
  pub access : List (List ℕ)
  pub least : AreLeastAccess a h access
  pub has : (q : ℕ) (w : List ℕ) → q < length h → IsWord a w → length w ≤ k + 1 → Contains suite (slice_index_or access q [] ++ w)
  pub apart : (p q : ℕ) (w : List ℕ) → p < length h → q < length h → IsWord a w → length w ≤ k + 1
      → TellsWhereDifferent h suite (slice_index_or access p []) (slice_index_or access q [] ++ w)
  pub along : (q : ℕ) (w : List ℕ) (i j : ℕ) → q < length h → IsWord a w → length w ≡ k + 1 → 0 < i → i < j → j ≤ k + 1
      → TellsWhereDifferent h suite (slice_index_or access q [] ++ take i w) (slice_index_or access q [] ++ take j w)

-- the Wp-suite of a machine does
abbrev pub WpSuiteTells : Type 0
WpSuiteTells = (a : ℕ) (h : Rows) (k : ℕ) (suite : List (List ℕ)) → IsMachine a h → IsWpSuite a h k suite → TellsStates a h k suite
