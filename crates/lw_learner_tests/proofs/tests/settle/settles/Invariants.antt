use Rattle.test_oracle.specs.Recording.{state_of}
use Rattle.test_tree.specs.Trials.{IsReady}
use Rattle.lw_learner_tests.proofs.tests.settle.settles.Given as goal

abbrev pub invariant-loop-step : goal.invariant-loop-step
invariant-loop-step g l = IsReady (state_of l.trial.oracle) l.trial.tree
