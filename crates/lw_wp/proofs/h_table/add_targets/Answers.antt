use Rattle.std.proofs.Common.{ℕ, ap}
use Rattle.lw_wp.proofs.HTableLemmas.{target_added}
use Rattle.lw_wp.proofs.h_table.add_targets.Goals as goal

pub loop-x-preserved : goal.loop-x-preserved
loop-x-preserved c =
    target_added c.args.m.now.rows c.args.q c.loop-x.x c.args.reached.now.items c.loop-x.reached.items c.push.new.self.items c.step.result.0 c.loop-x.invariant
    (ap (λ (t : ℕ × ℕ). t.0) c.step.ensures.value) c.step.ensures.state c.in_ok-push.ensures.items
