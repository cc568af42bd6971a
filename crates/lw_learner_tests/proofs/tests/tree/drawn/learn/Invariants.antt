use Rattle.test_oracle.specs.Recording.{state_of}
use Rattle.test_tree.specs.Trials.{IsReady}
use Rattle.lw_learner_tests.proofs.tests.tree.drawn.learn.Given as goal

abbrev pub invariant-loop : goal.invariant-loop
invariant-loop g l = IsReady (state_of l.trial.oracle) l.trial.tree
