use Rattle.std.proofs.Common.{take, map}
use Rattle.lw_wp.specs.bodies.HTables.{AreMarked, IsOfPair}
use Rattle.lw_wp.proofs.h_table.mark_pairs.Given as goal

abbrev pub invariant-loop-r : goal.invariant-loop-r
invariant-loop-r l = AreMarked l.fn.marks l.marks (IsOfPair l.m.rows l.by.words (map (λ numbers. numbers.items) l.own) l.q (take l.r-index l.states))
