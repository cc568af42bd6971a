use Rattle.lw_links.proofs.WayLemmas.{next_way, shorter_way}
use Rattle.lw_links.proofs.links.give.Goals as goal

pub loop-cursor-smaller : goal.loop-cursor-smaller
loop-cursor-smaller c =
    shorter_way c.args.places.now c.loop-cursor.places c.args.owner c.in-Some.cell c.args.first c.loop-cursor.cursor c.in-Some.is c.loop-cursor.auto.places c.loop-cursor.invariant

pub loop-cursor-preserved : goal.loop-cursor-preserved
loop-cursor-preserved c =
    next_way c.args.places.now c.loop-cursor.places c.args.owner c.in-Some.cell c.args.first c.loop-cursor.cursor c.in-Some.is c.loop-cursor.auto.places c.loop-cursor.invariant
