use Rattle.std.proofs.Common.{◌≡◌, ◌<◌, ◌≤◌, ◌+◌, None, length, sym, ◌∙◌, subst, arith}
use Rattle.lw_links.specs.Owners.{ListsByOwner, owner_of}
use Rattle.lw_tree.specs.bodies.Arrivals.{Added}
use Rattle.lw_tree.proofs.ArrivalLemmas.{added_none, added_more, added_all}
use Rattle.lw_tree.proofs.arrivals.Arrivals.add.Goals as goal

pub loop-number-init : goal.loop-number-init
loop-number-init c = added_none _ c.args.first

pub push-requires-clause-owner_exists : goal.push-requires-clause-owner_exists
push-requires-clause-owner_exists c =
    let lists : 0 < length c.self.inside.lists.lists = subst (λ (v : ListsByOwner). 0 < length v.lists) (sym c.self.view_is) c.requires.lists in
    omega (arith, lists, c.loop-number.invariant.size.owners)

pub push-requires-clause-cell_exists : goal.push-requires-clause-cell_exists
push-requires-clause-cell_exists c =
    let cells : c.args.first + c.args.count ≤ c.self.inside.lists.cells = subst (λ (v : ListsByOwner). c.args.first + c.args.count ≤ v.cells) (sym c.self.view_is) c.requires.cells in
    omega (arith, cells, c.loop-number.invariant.size.cells)

pub push-requires-clause-in_no_list : goal.push-requires-clause-in_no_list
push-requires-clause-in_no_list c =
    c.loop-number.invariant.above c.loop-number.number (omega arith)
    ∙ subst (λ (v : ListsByOwner). owner_of v c.loop-number.number ≡ None) (sym c.self.view_is) (c.requires.free c.loop-number.number (omega arith) (omega arith))

pub loop-number-preserved : goal.loop-number-preserved
loop-number-preserved c =
    added_more c.self.inside.lists c.loop-number.self-inside.lists c.push.new.self c.args.first c.loop-number.number (omega arith) c.loop-number.invariant c.push.ensures.value c.push.ensures.owners

pub returns : goal.returns
returns c =
    subst (λ (v : ListsByOwner). Added v c.loop-number.self-inside.lists c.args.first (c.args.first + c.args.count)) c.self.view_is
    (added_all c.self.inside.lists c.loop-number.self-inside.lists c.args.first c.loop-number.number (c.args.first + c.args.count) (omega arith) c.loop-number.invariant)
