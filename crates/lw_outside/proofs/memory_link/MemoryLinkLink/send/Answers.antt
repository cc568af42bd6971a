use Rattle.lw_outside.proofs.SayLemmas.{heard}
use Rattle.lw_outside.proofs.memory_link.MemoryLinkLink.send.Goals as goal

pub returns-then-bytes-self-clause-received : goal.returns-then-bytes-self-clause-received
returns-then-bytes-self-clause-received c = heard c.self.inside.child c.self.inside.sent.items c.self.inside.received.items c.self.invariant.0
