use Rattle.std.proofs.Common.{◌≡◌, ◌++◌, drop}
use Rattle.std.specs.List.{flat_map}
use Rattle.lw_plain.specs.Table.{extensions, row_words}
use Rattle.lw_plain_run.proofs.rows.row_words.Given as goal

abbrev pub invariant-loop-word : goal.invariant-loop-word
invariant-loop-word l = l.words ++ flat_map (extensions l.inputs) (drop l.word-index l.word-items) ≡ row_words l.inputs l.access
