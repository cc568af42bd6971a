-- A map from names to their places.
use Rattle.std.specs.Prelude.{◌≡◌, ℕ, List, Some, String, slice_get}
use Rattle.std.specs.HashMap.{HashMap, get_by_text}

-- the map has the names alone, and at each its place
pub record AreNumbers {X S : Type 0} (m : HashMap (String X) ℕ S) (names : List (List ℕ)) : Type 0 where
  pub at : (place : ℕ) (name : List ℕ) → slice_get names place ≡ Some name → get_by_text m name ≡ Some place
  pub is : (name : List ℕ) (place : ℕ) → get_by_text m name ≡ Some place → slice_get names place ≡ Some name
