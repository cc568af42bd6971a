use Rattle.std.proofs.Common.{◌≡◌, ◌++◌, map, Contains}
use Rattle.std.specs.List.{All}
use Rattle.lw_words.specs.Word.{IsWord}
use Rattle.lw_table.specs.Grown.{IsCellWord}
use Rattle.lw_table.specs.bodies.Filling.{EachRow}
use Rattle.lw_table.specs.bodies.Plain.{open_from}
use Rattle.lw_table.proofs.filling.unfilled.Given as goal

abbrev pub invariant-loop-row : goal.invariant-loop-row
invariant-loop-row l = record {
  left : l.words ++ open_from l.inputs l.access l.suffixes (map (λ r. r.cells) l.rows) l.row ≡ open_from l.inputs l.access l.suffixes (map (λ r. r.cells) l.rows) l.first;
  each : EachRow (Contains l.words) l.inputs l.access l.suffixes l.rows l.first l.row;
  cells : All (IsCellWord l.inputs l.access l.suffixes) l.words;
  letters : All (IsWord l.inputs) l.words;
}
