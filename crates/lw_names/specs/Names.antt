-- The names of a system's outputs, by number, and how they grow.
use Rattle.std.specs.Prelude.{◌≡◌, ◌⊎◌, ℕ, ◌<◌, ◌≤◌, List, [], ◌∷◌, ◌++◌, length, Option, Some, None}
use Rattle.std.specs.List.{All}
use Rattle.lw_words.specs.Word.{IsName, AllDiffer, number_of}

-- the list, and at its end the name where it has no number
abbrev pub added_name : List (List ℕ) → List ℕ → Option ℕ → List (List ℕ)
added_name names n (Some number) = names
added_name names n None = names ++ n ∷ []

-- the list, and at its end the name where the list lacks it
abbrev pub with_name : List (List ℕ) → List ℕ → List (List ℕ)
with_name names n = added_name names n (number_of n names)

-- the list, and at its end, in order, each of the names that it lacks
abbrev pub with_names : List (List ℕ) → List (List ℕ) → List (List ℕ)
with_names names [] = names
with_names names (n ∷ ns) = with_names (with_name names n) ns

-- the names of a system: at most this many, all of them names, all different
pub record AreNamed (most : ℕ) (names : List (List ℕ)) : Type 0 where
  pub few : length names ≤ most
  pub each : All IsName names
  pub differ : AllDiffer names

-- an output has a name that was there, or is the next number and brings its name
abbrev pub Brings : List (List ℕ) → List (List ℕ) → ℕ → Type 0
Brings before now y =
    ((y < length before) × (now ≡ before)) ⊎ ((y ≡ length before) × ((n : List ℕ) × (now ≡ before ++ n ∷ [])))

-- the names before, followed by some more
abbrev pub IsGrown : List (List ℕ) → List (List ℕ) → Type 0
IsGrown before now = (more : List (List ℕ)) × (now ≡ before ++ more)
