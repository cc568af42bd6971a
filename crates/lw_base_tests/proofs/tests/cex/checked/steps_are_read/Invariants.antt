use Rattle.std.proofs.Common.{ℕ, ◌<◌, [], ◌∷◌, ◌++◌}
use Rattle.lw_words.specs.Word.{answers_of}
use Rattle.lw_mealy.specs.Machine.{answer}
use Rattle.lw_cache.specs.Cut.{word_at}
use Rattle.lw_cache.specs.Known.{Reads}
use Rattle.lw_base_tests.proofs.tests.cex.checked.steps_are_read.Given as goal

abbrev pub invariant-loop-q : goal.invariant-loop-q
invariant-loop-q g l = (q x : ℕ) → q < l.q → x < l.model.inputs → Reads (answers_of l.cache.kept) (word_at l.access q ++ x ∷ []) (answer l.model.rows (word_at l.access q ++ x ∷ []))
