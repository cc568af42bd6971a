use Rattle.std.proofs.Common.{◌≡◌, ◌++◌, drop}
use Rattle.std.specs.List.{flat_map}
use Rattle.lw_plain.specs.Table.{cell_words, row_cells}
use Rattle.lw_plain_run.proofs.rows.cell_words.Given as goal

abbrev pub invariant-loop-row : goal.invariant-loop-row
invariant-loop-row l = l.words ++ flat_map (row_cells l.suffixes) (drop l.row-index l.row-items) ≡ cell_words l.rows l.suffixes
