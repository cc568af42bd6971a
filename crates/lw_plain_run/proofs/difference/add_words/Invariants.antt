use Rattle.std.proofs.Common.{◌≡◌, ◌++◌, take}
use Rattle.lw_plain_run.proofs.difference.add_words.Given as goal

abbrev pub invariant-loop-word : goal.invariant-loop-word
invariant-loop-word l = l.all ≡ l.initial.all ++ take l.word-index l.words
