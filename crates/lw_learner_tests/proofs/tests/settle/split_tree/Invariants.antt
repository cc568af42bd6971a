use Rattle.test_oracle.specs.Recording.{state_of}
use Rattle.test_tree.specs.Trials.{IsReady}
use Rattle.lw_learner_tests.proofs.tests.settle.split_tree.Given as goal

abbrev pub invariant-loop-word : goal.invariant-loop-word
invariant-loop-word g l = IsReady (state_of l.trial.oracle) l.trial.tree
