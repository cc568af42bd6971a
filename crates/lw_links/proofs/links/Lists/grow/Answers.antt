use Rattle.std.proofs.Common.{◌≡◌, ◌-◌, sym, subst, arith}
use Rattle.lw_links.specs.Owners.{ListsByOwner, owner_of}
use Rattle.lw_links.proofs.KeepLemmas.{read_each_once}
use Rattle.lw_links.proofs.OwnerLemmas.{grow_owner}
use Rattle.lw_links.proofs.CallLemmas.{grow_made}
use Rattle.lw_links.proofs.links.Lists.grow.Goals as goal

pub invariant_of-self-2 : goal.invariant_of-self-2
invariant_of-self-2 c =
    (grow_made c.self.inside.ends.items c.self.inside.places.items c.args.self.now c.self.view_is c.self.invariant c.args.owners c.args.cells
    c.requires.owners_stay c.requires.cells_stay (c.args.owners - c.len.result) (c.args.cells - c.len-2.result) (omega arith) (omega arith)
    c.append.new.items.items c.reserve.new.self.items c.append-2.new.items.items c.reserve-2.new.self.items
    c.append.ensures c.reserve.ensures.items c.append-2.ensures c.reserve-2.ensures.items).invariant

pub returns-clause-ok : goal.returns-clause-ok
returns-clause-ok c =
    (grow_made c.self.inside.ends.items c.self.inside.places.items c.args.self.now c.self.view_is c.self.invariant c.args.owners c.args.cells
    c.requires.owners_stay c.requires.cells_stay (c.args.owners - c.len.result) (c.args.cells - c.len-2.result) (omega arith) (omega arith)
    c.append.new.items.items c.reserve.new.self.items c.append-2.new.items.items c.reserve-2.new.self.items
    c.append.ensures c.reserve.ensures.items c.append-2.ensures c.reserve-2.ensures.items).view

pub returns-clause-owners : goal.returns-clause-owners
returns-clause-owners c k =
    let now = grow_made c.self.inside.ends.items c.self.inside.places.items c.args.self.now c.self.view_is c.self.invariant c.args.owners c.args.cells
    c.requires.owners_stay c.requires.cells_stay (c.args.owners - c.len.result) (c.args.cells - c.len-2.result) (omega arith) (omega arith)
    c.append.new.items.items c.reserve.new.self.items c.append-2.new.items.items c.reserve-2.new.self.items
    c.append.ensures c.reserve.ensures.items c.append-2.ensures c.reserve-2.ensures.items in
    subst (λ (w : ListsByOwner). owner_of w k ≡ owner_of c.args.self.now k) (sym now.view)
    (grow_owner c.args.self.now c.args.owners c.args.cells (read_each_once _ _ _ c.self.view_is c.self.invariant) (read_each_once _ _ _ now.view now.invariant) k)
