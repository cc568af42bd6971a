use Rattle.std.proofs.Common.{◌≡◌, length}
use Rattle.lw_learner_tests.proofs.tests.cache.drawn.Given as goal

abbrev pub invariant-loop : goal.invariant-loop
invariant-loop g l = length l.letters.items ≡ l.counter
