use Rattle.lw_outside.proofs.SayLemmas.{heard}
use Rattle.lw_outside.proofs.memory_link.MemoryLink.fails_by_plan.Goals as goal

pub returns-then-planned-clause-received : goal.returns-then-planned-clause-received
returns-then-planned-clause-received c = heard c.self.inside.child c.self.inside.sent.items c.self.inside.received.items c.self.invariant.0

pub returns-else-planned-clause-received : goal.returns-else-planned-clause-received
returns-else-planned-clause-received c = heard c.self.inside.child c.self.inside.sent.items c.self.inside.received.items c.self.invariant.0
