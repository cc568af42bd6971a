use Rattle.std.proofs.Common.{◌≡◌, ◌++◌, drop}
use Rattle.lw_plain.specs.Rounds.{asked_words}
use Rattle.lw_plain_run.proofs.difference.asked_words.Given as goal

abbrev pub invariant-loop-batch : goal.invariant-loop-batch
invariant-loop-batch l = l.words ++ asked_words (drop l.batch-index l.batch-items) ≡ asked_words l.batches
