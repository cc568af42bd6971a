use Rattle.std.proofs.Common.{◌≡◌, take}
use Rattle.lw_table.proofs.table.ObservationTable.with_row_word.Given as goal

abbrev pub invariant-loop-word : goal.invariant-loop-word
invariant-loop-word l = l.words ≡ take l.word-index l.self.access
