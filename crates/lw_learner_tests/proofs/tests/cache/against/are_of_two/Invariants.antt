use Rattle.std.proofs.Common.{◌<◌, take}
use Rattle.std.specs.List.{All}
use Rattle.lw_learner_tests.proofs.tests.cache.against.are_of_two.Given as goal

abbrev pub invariant-loop-letter : goal.invariant-loop-letter
invariant-loop-letter l = All (λ x. x < 2) (take l.letter-index l.letters)
