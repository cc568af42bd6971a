-- The search for a cut as the learner makes it that is a function of a machine (lw_plain): by the machine alone.
use Rattle.std.specs.Prelude.{◌≡◌, ℕ, ◌+◌, List, ◌++◌, length, map, drop}
use Rattle.lw_words.specs.declared.kept.KeptAnswer.{KeptAnswer}
use Rattle.lw_mealy.specs.Machine.{Rows}
use Rattle.lw_cache.specs.Settling.{OracleState}
use Rattle.lw_plain.specs.Table.{Search, search_word, probe_batch}
use Rattle.lw_plain.specs.Turns.{AsksInTurn, IsPlainOracle}

-- what is behind the cut of a word is what a search says, and each probe that was tried is a batch
pub record IsCutBy (m h : Rows) (access : List (List ℕ)) (w suffix : List ℕ) (asked : List (List (List ℕ))) (was is : List KeptAnswer) (s : Search) : Type 0 where
  pub behind : suffix ≡ drop (s.low + 1) w
  pub asks : AsksInTurn m asked (asked ++ map (probe_batch h access w) s.tried) was is

-- over an oracle that asks exactly what has to be asked, and whose answers are a machine's, the search tries what the machine says
abbrev pub SplitsPlainly : Rows → List (List ℕ) → List ℕ → List ℕ → OracleState → OracleState → Type 0
SplitsPlainly h access w suffix before now = (m : Rows) (asked : List (List (List ℕ))) → IsPlainOracle m asked before now → IsCutBy m h access w suffix asked before.kept now.kept (search_word m h access (length w) w)
