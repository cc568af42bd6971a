-- The state of a word in a cache.
use Rattle.std.specs.Prelude.{◌≡◌, ◌⊎◌, ◌↔◌, ℕ, ◌≤◌, List, [], length, Contains}
use Rattle.lw_words.specs.Word.{Answer, AllDiffer}
use Rattle.lw_cache.specs.Caching.{Claim, IsClaimedBy}
use Rattle.lw_cache.specs.Known.{IsKnown}
use Rattle.lw_cache.specs.declared.known.Known.{Known}
use Rattle.lw_cache.specs.declared.known.Known.TheVariants.{Yes, Pending, No}

-- known; or not known, but claimed, with the least number of such a claim; or neither
abbrev pub Stands : List Answer → List Claim → List ℕ → Known → Type 0
Stands ks cs w Yes = IsKnown ks w
Stands ks cs w (Pending number) = (¬ IsKnown ks w) × IsClaimedBy cs w number × ((other : ℕ) → IsClaimedBy cs w other → number ≤ other)
Stands ks cs w No = (¬ IsKnown ks w) × ((number : ℕ) → ¬ IsClaimedBy cs w number)

-- a word that isn't empty, and is known or begins a claimed word
abbrev pub IsNoted : List Answer → List Claim → List ℕ → Type 0
IsNoted ks cs w = (¬ (w ≡ [])) × (IsKnown ks w ⊎ ((number : ℕ) × IsClaimedBy cs w number))

-- there are this many different words of that kind
pub record CountsNoted (ks : List Answer) (cs : List Claim) (count : ℕ) : Type 0 where
  pub words : List (List ℕ)
  pub counted : length words ≡ count
  pub differ : AllDiffer words
  pub exactly : (w : List ℕ) → Contains words w ↔ IsNoted ks cs w
