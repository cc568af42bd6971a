use Rattle.lw_words.specs.Word.{answer_of}
use Rattle.lw_cache.proofs.PlainLemmas.{AgreeTo}
use Rattle.lw_cache.proofs.plain.clash.Given as goal

abbrev pub invariant-loop-place : goal.invariant-loop-place
invariant-loop-place l = AgreeTo (answer_of l.fn.first) (answer_of l.fn.second) l.place
