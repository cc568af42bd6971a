use Rattle.std.proofs.Common.{◌≡◌, [], get_or, take}
use Rattle.std.specs.List.{filter}
use Rattle.lw_wp.specs.GreedySuite.{is_alike}
use Rattle.lw_wp.proofs.greedy_sets.alike.Given as goal

abbrev pub invariant-loop-p : goal.invariant-loop-p
invariant-loop-p l = l.left.items ≡ filter (is_alike l.m.rows l.q (get_or l.by.words l.number [])) (take l.p-index l.states)
