use Rattle.std.proofs.Common.{◌≡◌, drop}
use Rattle.std.specs.List.{find}
use Rattle.lw_plain.specs.Table.{first_new, is_new, row_words}
use Rattle.lw_plain_run.proofs.table.Table.first_new.Given as goal

abbrev pub invariant-loop-word : goal.invariant-loop-word
invariant-loop-word l = record {
  left : find (is_new l.m.rows l.self) (drop l.word-index l.word-items) ≡ first_new l.m.inputs l.m.rows l.self;
  words : l.word-items ≡ row_words l.m.inputs l.self.access;
}
