use Rattle.std.proofs.Common.{subst}
use Rattle.lw_outside.specs.Memory.{HasHeard}
use Rattle.lw_outside.proofs.SayLemmas.{heard}
use Rattle.lw_outside.proofs.memory_link.MemoryLink.number.Goals as goal

pub returns-clause-received : goal.returns-clause-received
returns-clause-received c =
    subst HasHeard c.self.view_is (heard c.self.inside.child c.self.inside.sent.items c.self.inside.received.items c.self.invariant.0)
