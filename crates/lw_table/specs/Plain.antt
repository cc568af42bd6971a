-- A table as the learner has it that is a function of a machine (lw_plain), and what closing and refining come to by the machine alone.
use Rattle.std.specs.Prelude.{◌≡◌, ℕ, ◌-◌, List, [], ◌∷◌, ◌++◌, length, map, drop, None}
use Rattle.lw_words.specs.Word.{Answer}
use Rattle.lw_words.specs.declared.kept.KeptAnswer.{KeptAnswer}
use Rattle.lw_mealy.specs.Machine.{Rows, Gives}
use Rattle.lw_cache.specs.Settling.{OracleState}
use Rattle.lw_plain.specs.Table.{PlainTable, close, first_table, first_new, machine_of, row_words, row_cells, unless_empty, with_suffix}
use Rattle.lw_plain.specs.Turns.{AsksInTurn, IsPlainOracle}
use Rattle.lw_table.specs.Table.{TableState, IsTable, CellsAreRead, IsClosedTable, IsMachineOf, new_table}

-- of rows with this many cells each, the words of the cells that they don't have, row by row
abbrev pub open_cells : List (List ℕ) → List (List ℕ) → List ℕ → List (List ℕ)
open_cells suffixes [] counts = []
open_cells suffixes (w ∷ ws) [] = []
open_cells suffixes (w ∷ ws) (n ∷ ns) = row_cells (drop n suffixes) w ++ open_cells suffixes ws ns

-- the words of a table's cells that aren't filled
abbrev pub open_words : TableState → List (List ℕ)
open_words t = open_cells t.suffixes (row_words t.inputs t.access) (map (λ row. length row) t.cells)

-- the access words and the suffixes, once these batches were asked
abbrev pub plain_of : TableState → List (List (List ℕ)) → PlainTable
plain_of t asked = record { access = t.access; suffixes = t.suffixes; batches = asked }

-- the table once it is closed, where these batches were asked: all cells that aren't filled are a batch, then it is closed row by row
abbrev pub closed_plainly : Rows → TableState → List (List (List ℕ)) → PlainTable
closed_plainly m t asked = close t.inputs m (t.most - length t.access) (plain_of t (asked ++ open_words t ∷ []))

-- a closed table once it is refined with a suffix
abbrev pub refined_plainly : Rows → TableState → List ℕ → List (List (List ℕ)) → PlainTable
refined_plainly m t suffix asked = close t.inputs m (t.most - length t.access) (with_suffix t.inputs (plain_of t asked) suffix)

-- a table becomes this one, whose batches were asked in turn
pub record ComesToPlain (m : Rows) (asked : List (List (List ℕ))) (was is : List KeptAnswer) (t : TableState) (plain : PlainTable) : Type 0 where
  pub access : t.access ≡ plain.access
  pub suffixes : t.suffixes ≡ plain.suffixes
  pub asks : AsksInTurn m asked plain.batches was is

-- over an oracle that asks exactly what has to be asked, and whose answers are a machine's, closing asks and adds what the machine says
abbrev pub ClosesPlainly : TableState → TableState → OracleState → OracleState → Type 0
ClosesPlainly t closed before now = (m : Rows) (asked : List (List (List ℕ))) → IsPlainOracle m asked before now → ComesToPlain m asked before.kept now.kept closed (closed_plainly m t asked)

-- and so does refining
abbrev pub RefinesPlainly : List ℕ → TableState → TableState → OracleState → OracleState → Type 0
RefinesPlainly suffix t refined before now = (m : Rows) (asked : List (List (List ℕ))) → IsPlainOracle m asked before now → ComesToPlain m asked before.kept now.kept refined (refined_plainly m t suffix asked)

-- a new table is closed from the first one, whose cells are the batch behind the words that are given
abbrev pub NewIsFirst : Type 0
NewIsFirst = (a b most : ℕ) (given : List (List ℕ)) → plain_of (new_table a b most) (unless_empty given ++ open_words (new_table a b most) ∷ []) ≡ first_table a given

-- where the cells are what a machine's answers say, the machine of a closed table is that of the access words and the suffixes, and no
-- row is new
pub record IsPlainMachine (m : Rows) (t : TableState) (asked : List (List (List ℕ))) (h : Rows) : Type 0 where
  pub is : h ≡ machine_of t.inputs m (plain_of t asked)
  pub closed : first_new t.inputs m (plain_of t asked) ≡ None

abbrev pub MachineIsPlain : Type 0
MachineIsPlain = (m h : Rows) (ks : List Answer) (t : TableState) (asked : List (List (List ℕ))) → IsTable t → Gives m ks → CellsAreRead ks t → IsClosedTable t → IsMachineOf t h → IsPlainMachine m t asked h
