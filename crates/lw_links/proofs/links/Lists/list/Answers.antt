use Rattle.lw_links.proofs.CallLemmas.{list_way, list_exist}
use Rattle.lw_links.proofs.links.Lists.list.Goals as goal

pub spell-requires-clause-way_ends : goal.spell-requires-clause-way_ends
spell-requires-clause-way_ends c =
    list_way c.self.inside.ends.items c.self.inside.places.items c.args.self.now c.self.view_is c.self.invariant
    c.args.owner c.requires c.index.result.now c.index.ensures c.deref.result.now c.deref.ensures.value

pub spell-requires-clause-cells_exist : goal.spell-requires-clause-cells_exist
spell-requires-clause-cells_exist c =
    list_exist c.self.inside.ends.items c.self.inside.places.items c.args.self.now c.self.view_is c.self.invariant
    c.args.owner c.requires c.index.result.now c.index.ensures c.deref.result.now c.deref.ensures.value
