-- The first place at which two lists differ.
use Rattle.std.specs.Prelude.{◌≡◌, ◌≢◌, ℕ, ◌<◌, List, length, take, slice_index}

pub record DifferFirst (a b : List ℕ) (place : ℕ) : Type 0 where
  pub within : place < length a
  pub before : take place a ≡ take place b
  pub here : slice_index a place ≢ slice_index b place
