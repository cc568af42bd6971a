use Rattle.lw_words.specs.Word.{answer_of, answers_of}
use Rattle.lw_cache.specs.Clash.{IsClearAfter}
use Rattle.lw_cache.proofs.plain.clashes_with_clear.Given as goal

abbrev pub invariant-loop-number : goal.invariant-loop-number
invariant-loop-number l = IsClearAfter (answers_of l.fn.kept.answers) l.number (answer_of l.fn.answer)
