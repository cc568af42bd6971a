-- Where a system's runs come from, for contracts alone.
use Rattle.std.specs.Prelude.{ℕ, List, Option}
use Rattle.lw_mealy.specs.Machine.{Rows}

-- a machine, where that is observed; a link's number and the names under which letters are sent over it, where they are
-- observed
pub record Origin : Type 0 where
  pub machine : Option Rows
  pub link : Option ℕ
  pub letters : Option (List (List ℕ))
