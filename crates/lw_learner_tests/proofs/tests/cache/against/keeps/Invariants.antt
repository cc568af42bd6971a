use Rattle.std.proofs.Common.{◌≡◌, []}
use Rattle.std.specs.List.{All}
use Rattle.lw_words.specs.Word.{answers_of, IsWord}
use Rattle.lw_learner_tests.proofs.tests.cache.against.keeps.Given as goal

abbrev pub invariant-loop-letters : goal.invariant-loop-letters
invariant-loop-letters g l = (l.cache.claims ≡ []) × All (λ k. IsWord 2 k.word) (answers_of l.cache.kept)
