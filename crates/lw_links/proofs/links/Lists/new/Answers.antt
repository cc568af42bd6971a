use Rattle.std.proofs.Common.{◌≡◌, None, sym, subst}
use Rattle.lw_links.specs.Owners.{ListsByOwner, owner_of}
use Rattle.lw_links.proofs.OwnerLemmas.{empty_owner}
use Rattle.lw_links.proofs.CallLemmas.{new_made}
use Rattle.lw_links.proofs.links.Lists.new.Goals as goal

pub invariant_of-result : goal.invariant_of-result
invariant_of-result c =
    (new_made c.args.owners c.args.cells c.append.new.items.items c.in_ok-ends.ends.items c.append-2.new.items.items c.in_ok-places.places.items
    c.append.ensures c.in_ok-ends.ensures.items c.append-2.ensures c.in_ok-places.ensures.items).invariant

pub returns-clause-value : goal.returns-clause-value
returns-clause-value c =
    (new_made c.args.owners c.args.cells c.append.new.items.items c.in_ok-ends.ends.items c.append-2.new.items.items c.in_ok-places.places.items
    c.append.ensures c.in_ok-ends.ensures.items c.append-2.ensures c.in_ok-places.ensures.items).view

pub returns-clause-owners : goal.returns-clause-owners
returns-clause-owners c k =
    let now = new_made c.args.owners c.args.cells c.append.new.items.items c.in_ok-ends.ends.items c.append-2.new.items.items c.in_ok-places.places.items
    c.append.ensures c.in_ok-ends.ensures.items c.append-2.ensures c.in_ok-places.ensures.items in
    subst (λ (w : ListsByOwner). owner_of w k ≡ None) (sym now.view) (empty_owner c.args.owners c.args.cells k)
