use Rattle.std.proofs.Common.{◌≡◌, ℕ, List, ◌++◌, drop, Contains}
use Rattle.std.specs.List.{All}
use Rattle.lw_words.specs.Word.{IsWord}
use Rattle.lw_plain.specs.Table.{row_cells}
use Rattle.lw_table.specs.Grown.{IsCellWord, IsWordOfRow}
use Rattle.lw_table.specs.bodies.Filling.{EachCell}
use Rattle.lw_table.proofs.filling.add_cells.Given as goal

abbrev pub invariant-loop-cell : goal.invariant-loop-cell
invariant-loop-cell l = record {
  more : (more : List (List ℕ)) × (l.words ≡ l.initial.words ++ more);
  row : l.words ++ row_cells (drop l.cell l.suffixes) l.word ≡ l.initial.words ++ row_cells (drop l.from l.suffixes) l.word;
  each : EachCell (Contains l.words) l.suffixes l.word l.from l.cell;
  cells : (a : ℕ) (access : List (List ℕ)) → IsWordOfRow a access l.word → All (IsCellWord a access l.suffixes) l.initial.words → All (IsCellWord a access l.suffixes) l.words;
  letters : (a : ℕ) → IsWord a l.word → All (IsWord a) l.suffixes → All (IsWord a) l.initial.words → All (IsWord a) l.words;
}
