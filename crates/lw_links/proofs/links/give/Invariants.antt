use Rattle.std.proofs.Common.{length}
use Rattle.lw_links.specs.Chains.{way_in}
use Rattle.lw_links.proofs.WayLemmas.{IsOnTheWay}
use Rattle.lw_links.proofs.links.give.Given as goal

abbrev pub invariant-loop-cursor : goal.invariant-loop-cursor
invariant-loop-cursor l = IsOnTheWay l.initial.places l.places l.owner l.initial.cursor l.cursor

abbrev pub decreases-loop-cursor : goal.decreases-loop-cursor
decreases-loop-cursor l = length (way_in l.initial.places l.cursor)
