-- Words of a list, by their numbers, and the classes by which they are found.
use Rattle.std.specs.Prelude.{◌≡◌, ℕ, ◌<◌, List, length, map}
use Rattle.std.specs.List.{All}
use Rattle.lw_mealy.specs.Machine.{Rows}
use Rattle.lw_separate.specs.Separators.{IsSeparators}
use Rattle.lw_separate.specs.WordClasses.{AreWordClasses}
use Rattle.lw_wp.specs.Tables.{chosen}
use Rattle.lw_wp.specs.declared.separation.Separation.{Separation}

-- the machine's separating words, each with the classes of states by their outputs on it
pub record IsSeparation (a : ℕ) (h : Rows) (s : Separation) : Type 0 where
  pub separating : IsSeparators a h s.words
  pub few : length s.words < length h
  pub classes : AreWordClasses h s.words (map (λ c. c.items) s.classes.items)

-- the numbers of words of a list, the words being these
pub record Chooses (words : List (List ℕ)) (numbers : List ℕ) (those : List (List ℕ)) : Type 0 where
  pub below : All (λ i. i < length words) numbers
  pub are : chosen words numbers ≡ those
