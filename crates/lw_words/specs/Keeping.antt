-- A list of recorded answers with its room.
use Rattle.std.specs.Prelude.{ℕ, List}
use Rattle.lw_words.specs.declared.kept.KeptAnswer.{KeptAnswer}

-- the answers in order, and how many more can be put in without memory
pub record Keeping : Type 0 where
  pub answers : List KeptAnswer
  pub room : ℕ
