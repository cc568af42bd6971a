use Rattle.std.proofs.Common.{◌≡◌, length}
use Rattle.lw_workers.specs.bodies.Instances.{AreInstances}
use Rattle.lw_workers.proofs.machine.instances.Given as goal

abbrev pub invariant-loop-instance : goal.invariant-loop-instance
invariant-loop-instance l =
    AreInstances l.fn.system l.fn.names l.sessions.items
    × (length l.sessions.items ≡ l.instance)
