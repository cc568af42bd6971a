use Rattle.std.proofs.Common.{◌≡◌, ◌≢◌, ◌<◌, ℕ, List, ◌++◌, length}
use Rattle.std.specs.List.{AllPairs}
use Rattle.lw_words.specs.Word.{answers_of}
use Rattle.lw_table.specs.bodies.Classes.{row_of}
use Rattle.lw_table.specs.bodies.Filling.{GoesOn}
use Rattle.lw_table.proofs.filling.fill_row.Given as goal

abbrev pub invariant-loop-cell : goal.invariant-loop-cell
invariant-loop-cell l = record {
  more : (more : List (List (List ℕ))) × (l.classes ≡ l.initial.classes ++ more);
  differ : AllPairs (λ r s. r ≢ s) l.classes;
  within : l.class < length l.classes;
  cells : length (row_of l.classes l.class) ≡ l.cell;
  goes_on : GoesOn (answers_of l.cache.kept) l.suffixes l.word (row_of l.initial.classes l.fn.row.class) (row_of l.classes l.class);
}
