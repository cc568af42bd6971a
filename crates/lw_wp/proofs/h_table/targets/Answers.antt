use Rattle.lw_wp.proofs.HTableLemmas.{targets_more}
use Rattle.lw_wp.proofs.h_table.targets.Goals as goal

pub loop-q-preserved : goal.loop-q-preserved
loop-q-preserved c =
    targets_more c.args.m.now.inputs c.args.m.now.rows c.args.states.now c.loop-q.q-index c.loop-q.reached.items c.add_targets.new.reached.items c.loop-q.invariant c.loop-q-test.true c.in_ok-add_targets.ensures
