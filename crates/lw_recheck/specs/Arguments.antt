-- The values of the arguments of `recheck`, as contracts see them.
use Rattle.std.specs.Prelude.{ℕ, List}

-- the names of the setup's file and of the answers'
pub record RecheckValues : Type 0 where
  pub setup : List ℕ
  pub answers : List ℕ
