use Rattle.lw_wp.proofs.CursorLemmas.{at_start}
use Rattle.lw_wp.proofs.walk.Walk.new.Goals as goal

pub invariant_of-result : goal.invariant_of-result
invariant_of-result c = (c.requires, at_start c.args.parts)
