use Rattle.test_tree.specs.Trials.{IsReady}
use Rattle.lw_learner_tests.proofs.tests.tree.drawn.split_all.Given as goal

abbrev pub invariant-loop : goal.invariant-loop
invariant-loop g l = record {
  ready : IsReady (g.O.Oracle.state l.oracle) l.tree;
  can : g.O.Oracle.can_settle l.oracle;
}
