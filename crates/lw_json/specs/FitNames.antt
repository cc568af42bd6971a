-- The names of a file's answers, beside other names.
use Rattle.std.specs.Prelude.{◌≡◌, ℕ, List, Contains}
use Rattle.std.specs.List.{All}

-- the letters are the same, and each name of an output is among the others
pub record FitNames (own_inputs own_outputs their_inputs their_outputs : List (List ℕ)) : Type 0 where
  pub inputs : own_inputs ≡ their_inputs
  pub outputs : All (λ n. Contains their_outputs n) own_outputs
