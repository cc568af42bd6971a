-- What the machine of a closed table is.
use Rattle.std.specs.Prelude.{◌≡◌, ℕ, List, ◌++◌}
use Rattle.lw_words.specs.Word.{Answer, AreAnswers}
use Rattle.lw_mealy.specs.Machine.{Rows}
use Rattle.lw_cache.specs.Crowd.{IsCrowd}
use Rattle.lw_cache.specs.Cut.{AreAccess, StepsAreRead}
use Rattle.lw_table.specs.Table.{TableState, IsTable, CellsAreRead, IsClosedTable, IsMachineOf, new_table}

-- a new table has no cell that could be read otherwise
abbrev pub NewIsRead : Type 0
NewIsRead = (ks : List Answer) (a b most : ℕ) → CellsAreRead ks (new_table a b most)

-- answers that come leave what the cells are
abbrev pub CellsStay : Type 0
CellsStay = (ks more : List Answer) (t : TableState) → CellsAreRead ks t → CellsAreRead (ks ++ more) t

-- a closed table has a machine
abbrev pub HasMachine : Type 0
HasMachine = (t : TableState) → IsTable t → IsClosedTable t → (m : Rows) × IsMachineOf t m

-- a table has one machine at most
abbrev pub OneMachine : Type 0
OneMachine = (t : TableState) (m n : Rows) → IsTable t → IsMachineOf t m → IsMachineOf t n → m ≡ n

-- each access word leads to its state
abbrev pub AccessLeads : Type 0
AccessLeads = (t : TableState) (m : Rows) → IsTable t → IsMachineOf t m → AreAccess t.inputs m t.access

-- each access word followed by each letter is known, with the machine's outputs
abbrev pub MachineGivesCells : Type 0
MachineGivesCells = (ks : List Answer) (t : TableState) (m : Rows) → IsTable t → AreAnswers t.inputs ks → CellsAreRead ks t → IsClosedTable t → IsMachineOf t m → StepsAreRead ks t.inputs m t.access

-- any two access words are apart
abbrev pub AccessIsCrowd : Type 0
AccessIsCrowd = (ks : List Answer) (t : TableState) → IsTable t → CellsAreRead ks t → IsCrowd ks t.access
