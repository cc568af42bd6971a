-- The columns of a machine: the cells of all states at a letter.
use Rattle.std.specs.Prelude.{◌≡◌, ℕ, ◌<◌, List, [], length, slice_index_or}
use Rattle.lw_mealy.specs.Machine.{Rows, cell}

pub record IsColumn (m : Rows) (x : ℕ) (column : List (ℕ × ℕ)) : Type 0 where
  pub long : length column ≡ length m
  pub cells : (q : ℕ) → q < length column → slice_index_or column q (0, 0) ≡ cell m q x

-- one for each letter
pub record AreColumns (a : ℕ) (m : Rows) (columns : List (List (ℕ × ℕ))) : Type 0 where
  pub long : length columns ≡ a
  pub each : (x : ℕ) → x < length columns → IsColumn m x (slice_index_or columns x [])
