use Rattle.lw_words.specs.Word.{answers_of}
use Rattle.lw_cache.specs.Plain.{AreFlags}
use Rattle.lw_cache.proofs.plain.clear.Given as goal

abbrev pub invariant-loop-number : goal.invariant-loop-number
invariant-loop-number l = AreFlags (answers_of l.fn.kept.answers) l.number l.flags.items
