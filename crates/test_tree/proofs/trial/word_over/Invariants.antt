use Rattle.lw_words.specs.Word.{IsWord}
use Rattle.test_tree.proofs.trial.word_over.Given as goal

abbrev pub invariant-loop-letter : goal.invariant-loop-letter
invariant-loop-letter l = IsWord l.inputs l.word
