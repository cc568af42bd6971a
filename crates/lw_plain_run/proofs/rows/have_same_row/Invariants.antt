use Rattle.std.proofs.Common.{◌≡◌, drop}
use Rattle.std.specs.List.{list_all}
use Rattle.lw_plain.specs.Table.{has_same_cell, has_same_row}
use Rattle.lw_plain_run.proofs.rows.have_same_row.Given as goal

abbrev pub invariant-loop-suffix : goal.invariant-loop-suffix
invariant-loop-suffix l = list_all (has_same_cell l.m.rows l.one l.other) (drop l.suffix-index l.suffix-items) ≡ has_same_row l.m.rows l.suffixes l.one l.other
