-- The first fault of a list that is to be one of names.
use Rattle.std.specs.Prelude.{◌≡◌, ℕ, ◌<◌, ◌≤◌, List, [], take, length, slice_get}
use Rattle.std.specs.List.{All}
use Rattle.lw_words.specs.First.{FailsFirst}
use Rattle.lw_words.specs.declared.names.NamesFault.{NamesFault}
use Rattle.lw_words.specs.declared.names.NamesFault.TheVariants.{Empty, TooMany, BadName, Repeated, NoMemory}
use Rattle.lw_words.specs.Word.{IsName, AllDiffer}

-- the name at the second place stands at the first too, and those before the second differ
pub record RepeatsFirst (names : List (List ℕ)) (first second : ℕ) : Type 0 where
  pub before : first < second
  pub within : second < length names
  pub same : slice_get names first ≡ slice_get names second
  pub others : AllDiffer (take second names)

-- the first fault of a list that is to be one of names, at most `limit` of them; no list has two, and none that is one of names has one
abbrev pub HasFault : ℕ → List (List ℕ) → NamesFault → Type 0
HasFault limit names Empty = names ≡ []
HasFault limit names (TooMany count) = (count ≡ length names) × (limit < count)
HasFault limit names (BadName place) = (length names ≤ limit) × FailsFirst IsName names place
HasFault limit names (Repeated first second) = (length names ≤ limit) × All IsName names × RepeatsFirst names first second
HasFault limit names NoMemory = Unit {0}
