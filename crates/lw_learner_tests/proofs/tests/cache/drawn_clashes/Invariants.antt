use Rattle.std.proofs.Common.{◌≡◌, []}
use Rattle.lw_learner_tests.proofs.tests.cache.drawn_clashes.Given as goal

abbrev pub invariant-loop-run : goal.invariant-loop-run
invariant-loop-run g l = l.cache.claims ≡ []
