use Rattle.std.proofs.Common.{take, Contains}
use Rattle.lw_wp.specs.bodies.HTables.{AreMarked}
use Rattle.lw_wp.proofs.marks.mark_all.Given as goal

abbrev pub invariant-loop-number : goal.invariant-loop-number
invariant-loop-number l = AreMarked l.fn.marks l.marks (Contains (take l.number-index l.numbers))
