use Rattle.std.proofs.Common.{subst}
use Rattle.lw_tree.specs.Tree.{TreeState, IsTree}
use Rattle.lw_tree.proofs.MachineLemmas.{step_is}
use Rattle.lw_tree.proofs.tree.DiscriminationTree.step.Goals as goal

pub returns-clause-step : goal.returns-clause-step
returns-clause-step c m is =
    step_is c.args.self.now m (subst (λ (u : TreeState). IsTree u) c.self.view_is c.self.invariant.tree) is c.args.state c.args.letter c.step_by.result.0 c.step_by.result.1 c.requires.state c.requires.letter c.step_by.ensures
