use Rattle.lw_suite.proofs.PlaceLemmas.{front_spelled}
use Rattle.lw_suite.proofs.places.spell_front.Goals as goal

pub returns : goal.returns
returns c = front_spelled c.args.parts.now c.args.number _ _ _ _ _ c.requires c.clear.ensures c.get.ensures c.as_slice.ensures c.in_ok-extend.ensures.ok c.in_ok-spell.ensures
