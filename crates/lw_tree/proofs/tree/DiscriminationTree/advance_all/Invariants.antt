use Rattle.lw_words.specs.Word.{answers_of}
use Rattle.lw_tree.specs.bodies.Steps.{HasSifted}
use Rattle.lw_tree.proofs.LevelLemmas.{number_from}
use Rattle.lw_tree.proofs.tree.DiscriminationTree.advance_all.Given as goal

abbrev pub invariant-loop-number : goal.invariant-loop-number
invariant-loop-number l = HasSifted (answers_of l.cache.kept) l.fn.self (number_from l.fn.self l.numbers l.number-index) l.self
