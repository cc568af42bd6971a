use Rattle.lw_settle.proofs.BlockLemmas.{roots_more}
use Rattle.lw_settle.proofs.classes.class_roots.Goals as goal

pub loop-state-preserved : goal.loop-state-preserved
loop-state-preserved c =
    let l = c.loop-state in
    roots_more c.args.tree.now l.state c.class_root.result l.roots.items c.push.new.self.items l.invariant c.class_root.ensures c.in_ok-push.ensures.items
