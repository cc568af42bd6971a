-- Words to which two machines answer otherwise, as they are looked for.
use Rattle.std.specs.Prelude.{◌≡◌, ◌≢◌, ◌⊎◌, ℕ, List, Option, Some, None, MatchOption}
use Rattle.std.specs.declared.cmp.Ordering.TheVariants.{Less}
use Rattle.lw_words.specs.Word.{shortlex_cmp}
use Rattle.lw_mealy.specs.Machine.{Rows}
use Rattle.lw_separate.specs.Canonical.{LeastWord}
use Rattle.lw_plain.specs.Rounds.{Reveals}

-- the lesser of two words, if there are two
abbrev pub IsLesser : Option (List ℕ) → List ℕ → List ℕ → Type 0
IsLesser None front now = now ≡ front
IsLesser (Some word) front now = ((now ≡ front) × (shortlex_cmp front word ≡ Less)) ⊎ ((now ≡ word) × (shortlex_cmp front word ≢ Less))

-- the least word that one of these reveals, and none where none does
abbrev pub IsLeast : Rows → Rows → List (List ℕ) → Option (List ℕ) → Type 0
IsLeast m h words best = MatchOption best ((w : List ℕ) → ¬ Reveals m h words w) (LeastWord (Reveals m h words))
