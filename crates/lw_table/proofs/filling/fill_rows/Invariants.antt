use Rattle.std.proofs.Common.{◌≡◌, ◌≢◌, ◌+◌, ℕ, List, ◌++◌, length}
use Rattle.std.specs.List.{AllPairs}
use Rattle.lw_words.specs.Word.{answers_of}
use Rattle.lw_table.specs.bodies.Filling.{GoOn}
use Rattle.lw_table.proofs.filling.fill_rows.Given as goal

abbrev pub invariant-loop-row : goal.invariant-loop-row
invariant-loop-row l = record {
  more : (more : List (List (List ℕ))) × (l.classes ≡ l.initial.classes ++ more);
  differ : AllPairs (λ r s. r ≢ s) l.classes;
  all : l.first + length l.filled.items ≡ l.row;
  go_on : GoOn (answers_of l.cache.kept) l.inputs l.access l.suffixes l.initial.classes l.rows l.first l.classes l.filled.items;
}
