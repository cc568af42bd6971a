use Rattle.std.proofs.Common.{◌∙◌}
use Rattle.lw_workers.proofs.InstanceLemmas.{one_more_instance}
use Rattle.lw_workers.proofs.machine.instances.Goals as goal

pub loop-instance-preserved : goal.loop-instance-preserved
loop-instance-preserved c =
    let table = c.new-table.ensures in
    one_more_instance c.args.system.now c.args.names.now c.loop-instance.instance c.loop-instance.sessions.items c.push.new.self.items c.new.result c.new-table.result c.from.result c.loop-instance.invariant.0 c.loop-instance.invariant.1 c.in_ok-push.ensures.items c.new.ensures c.from.ensures (table.machine ∙ c.in_ok-copy.ensures) table.state (table.names ∙ c.in_ok-copy-2.ensures)
