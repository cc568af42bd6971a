-- How a table is closed as the plain learner closes it, step by step.
use Rattle.std.specs.Prelude.{◌≡◌, ℕ, ◌-◌, List, [], ◌∷◌, ◌++◌, length, map, drop}
use Rattle.lw_words.specs.declared.kept.KeptAnswer.{KeptAnswer}
use Rattle.lw_mealy.specs.Machine.{Rows}
use Rattle.lw_cache.specs.Settling.{OracleState}
use Rattle.lw_plain.specs.Table.{close, extensions, row_words, cell_words}
use Rattle.lw_plain.specs.Turns.{AsksInTurn, IsPlainOracle, AsksBatch}
use Rattle.lw_table.specs.Plain.{open_cells, plain_of, closed_plainly}
use Rattle.lw_table.specs.Table.{TableState}
use Rattle.lw_table.specs.bodies.Rows.{IsRowWord}

-- the words of the open cells of the rows from one on, over this many letters, where the rows have this many cells each
abbrev pub open_from : ℕ → List (List ℕ) → List (List ℕ) → List ℕ → ℕ → List (List ℕ)
open_from a access suffixes counts first = open_cells suffixes (drop first (row_words a access)) (drop first counts)

abbrev pub open_behind : TableState → ℕ → List (List ℕ)
open_behind t first = open_from t.inputs t.access t.suffixes (map (λ row. length row) t.cells) first

-- the word of a row became an access word, and all cells of its extensions were asked
pub record AddsPlainly (row : ℕ) (t added : TableState) (before now : OracleState) : Type 0 where
  pub word : List ℕ
  pub of_row : IsRowWord t.inputs t.access row word
  pub access : added.access ≡ t.access ++ word ∷ []
  pub asks : AsksBatch (cell_words (extensions t.inputs word) t.suffixes) before now

-- what is left of the closing, from a table on, gives the whole
pub record IsClosing (m : Rows) (asked : List (List (List ℕ))) (was is : List KeptAnswer) (t now : TableState) : Type 0 where
  pub batches : List (List (List ℕ))
  pub left : close t.inputs m (t.most - length now.access) (plain_of now batches) ≡ closed_plainly m t asked
  pub asks : AsksInTurn m asked batches was is

abbrev pub ClosesOn : TableState → TableState → OracleState → OracleState → Type 0
ClosesOn t between before now = (m : Rows) (asked : List (List (List ℕ))) → IsPlainOracle m asked before now → IsClosing m asked before.kept now.kept t between
