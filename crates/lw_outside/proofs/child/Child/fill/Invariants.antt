use Rattle.std.proofs.Common.{take}
use Rattle.lw_outside.specs.bodies.Child.{Says}
use Rattle.lw_outside.proofs.child.Child.fill.Given as goal

abbrev pub invariant-loop-count : goal.invariant-loop-count
invariant-loop-count l = Says (take l.count l.buffer) l.sent l.initial.self l.self
