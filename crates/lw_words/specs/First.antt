-- The first place of a list at which something fails.
use Rattle.std.specs.Prelude.{ℕ, ◌<◌, List, length}
use Rattle.std.specs.List.{AllWithin, HoldsAt}

-- P fails of the element at this place and holds of each before it
pub record FailsFirst {X : Type 0} (P : X → Type 0) (xs : List X) (place : ℕ) : Type 0 where
  pub within : place < length xs
  pub fails : HoldsAt (λ x. ¬ P x) xs place
  pub before : AllWithin P xs 0 place
