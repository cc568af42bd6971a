use Rattle.lw_words.specs.Word.{answers_of}
use Rattle.lw_apart.proofs.BehindLemmas.{Parting}
use Rattle.lw_apart.proofs.apart.parts_behind.Given as goal

abbrev pub invariant-loop-letter : goal.invariant-loop-letter
invariant-loop-letter l = Parting l.h.rows (answers_of l.cache.kept) l.initial.word l.p l.q l.letters l.word l.first l.second l.letter-index
