-- Lists whose elements are found by look-up.
use Rattle.std.specs.Prelude.{◌≡◌, ℕ, ◌<◌, Bool, true, false, List, length, slice_index_or, Option, MatchOption}
use Rattle.std.specs.List.{All}

-- the number of an element that is equal to what is looked up, or nothing where no element is
abbrev pub IsNumberOf : {K : Type 0} → (K → K → Bool) → List K → K → Option ℕ → Type 0
IsNumberOf eq keys key found = MatchOption found (All (λ x. eq x key ≡ false) keys) (λ n. (n < length keys) × (eq (slice_index_or keys n key) key ≡ true))

-- so much is found at each key
abbrev pub AreNumbered : {K : Type 0} → (K → K → Bool) → List K → (K → Option ℕ) → Type 0
AreNumbered eq keys find = (key : _) → IsNumberOf eq keys key (find key)
