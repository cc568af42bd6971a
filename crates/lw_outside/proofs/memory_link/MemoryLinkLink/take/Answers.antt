use Rattle.std.proofs.Common.{take}
use Rattle.lw_outside.specs.bodies.Child.{HasSaid}
use Rattle.lw_outside.proofs.SayLemmas.{heard, said_then}
use Rattle.lw_outside.proofs.memory_link.MemoryLinkLink.take.Goals as goal

pub returns-clause-received : goal.returns-clause-received
returns-clause-received c =
    let has : HasSaid c.fill_front-count.new.self c.self.inside.sent.items c.push_within.new.list.items =
    said_then (take c.fill_front-count.result c.fill_front-count.new.buffer) c.self.inside.sent.items c.deref.result.now c.deref-2.result.now c.self.inside.received.items c.push_within.new.list.items c.self.inside.child c.is_ready.new.self c.fill_front-count.new.self c.self.invariant.0 c.deref.ensures.value c.is_ready.ensures.says c.deref-2.ensures.value c.fill_front-count.ensures.says c.push_within.ensures.items in
    heard c.fill_front-count.new.self c.self.inside.sent.items c.push_within.new.list.items has
