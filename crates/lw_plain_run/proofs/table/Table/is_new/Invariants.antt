use Rattle.std.proofs.Common.{◌≡◌, drop}
use Rattle.std.specs.List.{list_any}
use Rattle.lw_plain.specs.Table.{has_same_row}
use Rattle.lw_plain_run.proofs.table.Table.is_new.Given as goal

abbrev pub invariant-loop-access : goal.invariant-loop-access
invariant-loop-access l = list_any (has_same_row l.m.rows l.self.suffixes l.word) (drop l.access-index l.access-items) ≡ list_any (has_same_row l.m.rows l.self.suffixes l.word) l.self.access
