use Rattle.std.proofs.Common.{rules}
use Rattle.lw_links.proofs.WayLemmas.{spelled_exists, spelled_more, spelled_shorter}
use Rattle.lw_links.proofs.links.spell.Goals as goal

pub bounds-places-cell : goal.bounds-places-cell
bounds-places-cell c = spelled_exists c.args.places.now c.in-Some.cell c.args.first c.loop-at.at c.loop-at.cells.items c.in-Some.is c.loop-at.invariant

pub loop-at-smaller : goal.loop-at-smaller
loop-at-smaller c = spelled_shorter c.args.places.now c.in-Some.cell c.args.first c.loop-at.at c.loop-at.cells.items c.in-Some.is c.loop-at.invariant

pub loop-at-preserved : goal.loop-at-preserved
loop-at-preserved c = spelled_more c.args.places.now c.in-Some.cell c.args.first c.loop-at.at c.loop-at.cells.items c.in-Some.is c.loop-at.invariant c.push.new.self.items (search rules)
