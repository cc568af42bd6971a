use Rattle.std.proofs.Common.{take}
use Rattle.std.specs.List.{All}
use Rattle.lw_words.specs.Word.{IsWord}
use Rattle.lw_base_tests.proofs.tests.cex.checked.have_letters.Given as goal

abbrev pub invariant-loop-word : goal.invariant-loop-word
invariant-loop-word g l = All (IsWord l.model.inputs) (take l.word-index l.words)
