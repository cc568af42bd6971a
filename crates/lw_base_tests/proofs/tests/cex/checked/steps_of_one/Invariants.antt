use Rattle.std.proofs.Common.{ℕ, ◌<◌, [], ◌∷◌, ◌++◌}
use Rattle.lw_words.specs.Word.{answers_of}
use Rattle.lw_mealy.specs.Machine.{answer}
use Rattle.lw_cache.specs.Known.{Reads}
use Rattle.lw_base_tests.proofs.tests.cex.checked.steps_of_one.Given as goal

abbrev pub invariant-loop-letter : goal.invariant-loop-letter
invariant-loop-letter g l = (x : ℕ) → x < l.letter → Reads (answers_of l.cache.kept) (l.access ++ x ∷ []) (answer l.model.rows (l.access ++ x ∷ []))
