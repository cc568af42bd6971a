-- Classes of states by their outputs on one word.
-- Source: the refinement of partitions of Moore (1956), of which this is a step by a whole word.
use Rattle.std.specs.Prelude.{◌≡◌, ℕ, ◌<◌, List, [], length, slice_index_or}
use Rattle.lw_mealy.specs.Machine.{Rows, out}

-- one number for each state; two have one number exactly where their outputs on the word are equal
pub record AreClassesOn (m : Rows) (w : List ℕ) (classes : List ℕ) : Type 0 where
  pub long : length classes ≡ length m
  pub same : (p q : ℕ) → p < length m → q < length m → slice_index_or classes p 0 ≡ slice_index_or classes q 0 → out m p w ≡ out m q w
  pub apart : (p q : ℕ) → p < length m → q < length m → out m p w ≡ out m q w → slice_index_or classes p 0 ≡ slice_index_or classes q 0

-- for each word the classes of states by their outputs on it
pub record AreWordClasses (m : Rows) (words classes : List (List ℕ)) : Type 0 where
  pub long : length classes ≡ length words
  pub each : (i : ℕ) → i < length classes → AreClassesOn m (slice_index_or words i []) (slice_index_or classes i [])
