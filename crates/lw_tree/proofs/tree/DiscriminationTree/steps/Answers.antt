use Rattle.std.proofs.Common.{rules}
use Rattle.lw_tree.proofs.MachineLemmas.{steps_more}
use Rattle.lw_tree.proofs.tree.DiscriminationTree.steps.Goals as goal

pub loop-letter-preserved : goal.loop-letter-preserved
loop-letter-preserved c =
    let l = c.loop-letter in
    steps_more c.args.self.now c.args.state l.letter c.step_by.result.0 c.step_by.result.1 l.row.items c.push.new.self.items l.invariant c.step_by.ensures (search rules)
