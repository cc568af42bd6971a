-- How the shared names of outputs are kept: by tables from each instance's own numbers to the shared ones.
use Rattle.std.specs.Prelude.{◌≡◌, ℕ, ◌<◌, ◌≤◌, List, length, map, slice_index_or, Bool, true, false, Option, Some, None}
use Rattle.std.specs.List.{All, count_by, sum_by}
use Rattle.std.specs.Ordering.{is_lt, nat_cmp}
use Rattle.std.specs.Cmp.Lexicographic.{slice_cmp}
use Rattle.lw_words.specs.Word.{IsName, AllDiffer, name_at, named}

-- for free names, the names that each table's numbers stand for
abbrev pub brought_of : Bool → List (List ℕ) → List (List ℕ) → Option (List (List (List ℕ)))
brought_of false names tables = None
brought_of true names tables = Some (map (named names) tables)

-- for free names there are 16 tables, which name all the names, and room for the greatest number of names and in each table
pub record HasTables (names tables : List (List ℕ)) (spare : ℕ) (spares : List ℕ) : Type 0 where
  pub count : length tables ≡ 16
  pub named : length names ≤ sum_by (λ t. length t) tables
  pub room : 4096 ≤ spare
  pub rooms : All (λ n. 256 ≤ n) spares

pub record IsOutNames (free : Bool) (names tables : List (List ℕ)) (spare : ℕ) (spares : List ℕ) : Type 0 where
  pub each : All IsName names
  pub differ : AllDiffer names
  pub few : length names ≤ 4096
  pub within : All (All (λ y. y < length names)) tables
  pub short : All (λ t. length t ≤ 256) tables
  pub free_names : free ≡ true → HasTables names tables spare spares

-- how many names are before this one
abbrev pub count_before : List (List ℕ) → List ℕ → ℕ
count_before names name = count_by (λ n. is_lt (slice_cmp nat_cmp n name)) names

-- the first n numbers: of each name, how many are before it
abbrev pub AreRanks : List ℕ → List (List ℕ) → ℕ → Type 0
AreRanks to names n = (y : ℕ) → y < n → slice_index_or to y 0 ≡ count_before names (name_at names y)
