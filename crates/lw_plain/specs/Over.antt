-- Tables whose words are over this many letters.
use Rattle.std.specs.Prelude.{ℕ, ◌<◌, length}
use Rattle.std.specs.List.{All}
use Rattle.lw_words.specs.Word.{IsWord}
use Rattle.lw_plain.specs.Rounds.{asked_words}
use Rattle.lw_plain.specs.Table.{PlainTable}

-- the words of a table and of its batches are over a letters, and it has an access word
pub record IsOver (a : ℕ) (t : PlainTable) : Type 0 where
  pub some : 0 < length t.access
  pub words : All (IsWord a) t.access
  pub suffixes : All (IsWord a) t.suffixes
  pub asked : All (IsWord a) (asked_words t.batches)
