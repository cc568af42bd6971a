-- Two files that a command is given.
use Rattle.std.specs.Prelude.{ℕ, List, Option, Some, None}

pub record PairValues : Type 0 where
  pub first : List ℕ
  pub second : List ℕ

abbrev pub pair_from : Option (List ℕ) → Option (List ℕ) → Option PairValues
pair_from None second = None
pair_from (Some first) None = None
pair_from (Some first) (Some second) = Some (record { first = first; second = second })
