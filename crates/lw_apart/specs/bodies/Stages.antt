-- What is missing, stage by stage.
use Rattle.std.specs.Prelude.{◌≡◌, ◌≢◌, ◌⊎◌, ℕ, List, Option, Some, None, MatchOption}
use Rattle.std.specs.List.{All}
use Rattle.std.specs.declared.cmp.Ordering.TheVariants.{Less}
use Rattle.lw_words.specs.Word.{Answer, shortlex_cmp}
use Rattle.lw_mealy.specs.Machine.{Rows}
use Rattle.lw_cache.specs.Known.{IsKnown}
use Rattle.lw_apart.specs.Pairs.{WordPair, IsKnownApart, fronts as fronts_of}
use Rattle.lw_apart.specs.Missing.{IsFirstOpen, IsLeastUnknown}
use Rattle.lw_apart.specs.declared.fronts.Fronts.{Fronts}

-- the access words with the words of at most this many letters behind them
abbrev pub all_fronts : Fronts → List (List ℕ)
all_fronts f = fronts_of f.inputs f.access f.longest

-- the first pair that is open, and none exactly where all are known apart
abbrev pub FirstOpen : Rows → List Answer → List WordPair → Option WordPair → Type 0
FirstOpen h ks list found = MatchOption found (All (IsKnownApart h ks) list) (IsFirstOpen h ks list)

-- the least word that isn't known, and none exactly where all are known
abbrev pub LeastUnknown : List Answer → List (List ℕ) → Option (List ℕ) → Type 0
LeastUnknown ks words found = MatchOption found (All (IsKnown ks) words) (IsLeastUnknown ks words)

-- the one of two words that comes first in shortlex order
abbrev pub IsFirstOf : Option (List ℕ) → List ℕ → Option (List ℕ) → Type 0
IsFirstOf None w result = result ≡ Some w
IsFirstOf (Some best) w result =
    ((result ≡ Some w) × (shortlex_cmp w best ≡ Less)) ⊎ ((result ≡ Some best) × (shortlex_cmp w best ≢ Less))

-- the best word so far with a further one, which counts where it isn't known
abbrev pub IsBestWith : List Answer → Option (List ℕ) → List ℕ → Option (List ℕ) → Type 0
IsBestWith ks best w result = (IsKnown ks w × (result ≡ best)) ⊎ ((¬ IsKnown ks w) × IsFirstOf best w result)
