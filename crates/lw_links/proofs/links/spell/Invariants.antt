use Rattle.std.proofs.Common.{length}
use Rattle.lw_links.specs.Chains.{way_in}
use Rattle.lw_links.proofs.WayLemmas.{IsSpelling}
use Rattle.lw_links.proofs.links.spell.Given as goal

abbrev pub invariant-loop-at : goal.invariant-loop-at
invariant-loop-at l = IsSpelling l.places l.initial.at l.at l.cells.items

abbrev pub decreases-loop-at : goal.decreases-loop-at
decreases-loop-at l = length (way_in l.places l.at)
