use Rattle.std.proofs.Common.{◌≡◌, ◌<◌, length, arith, ap, ◌∙◌, sym, subst, ◌==◌, if◌then◌else◌, None}
use Rattle.std.proofs.lemmas.List.{take_at}
use Rattle.lw_links.specs.Chains.{place_of_cell, joined}
use Rattle.lw_links.proofs.CallLemmas.{unlink_cell, unlink_some, unlink_owner, unlink_previous, unlink_next, unlink_made}
use Rattle.lw_links.specs.Owners.{ListsByOwner, owner_of}
use Rattle.lw_links.proofs.KeepLemmas.{read_each_once}
use Rattle.lw_links.proofs.OwnerLemmas.{unlink_owner_of}
use Rattle.lw_links.proofs.links.Lists.unlink.Goals as goal

pub index-requires : goal.index-requires
index-requires c =
    let cell_exists : c.args.cell < length c.self.inside.places.items = unlink_cell c.self.inside.ends.items c.self.inside.places.items c.args.self.now c.self.view_is c.self.invariant c.args.cell c.requires in omega arith

pub unwrap-owner-requires : goal.unwrap-owner-requires
unwrap-owner-requires c = unlink_some c.self.inside.ends.items c.self.inside.places.items c.args.self.now c.self.view_is c.self.invariant c.args.cell c.requires c.index.result.now c.index.ensures

pub index-ends-requires : goal.index-ends-requires
index-ends-requires c =
    let owner_exists : c.unwrap-owner.result < length c.self.inside.ends.items =
    unlink_owner c.self.inside.ends.items c.self.inside.places.items c.args.self.now c.self.view_is c.self.invariant c.args.cell c.requires c.index.result.now c.index.ensures c.unwrap-owner.result c.unwrap-owner.ensures in
    omega arith

pub join-requires-clause-previous_exists : goal.join-requires-clause-previous_exists
join-requires-clause-previous_exists c =
    unlink_previous c.self.inside.ends.items c.self.inside.places.items c.args.self.now c.self.view_is c.self.invariant c.args.cell c.requires c.index.result.now c.index.ensures (length c.as_mut_slice.result.now) (omega arith)

pub join-requires-clause-next_exists : goal.join-requires-clause-next_exists
join-requires-clause-next_exists c =
    unlink_next c.self.inside.ends.items c.self.inside.places.items c.args.self.now c.self.view_is c.self.invariant c.args.cell c.requires c.index.result.now c.index.ensures (length c.as_mut_slice.result.now) (omega arith)

pub index_mut-requires : goal.index_mut-requires
index_mut-requires c =
    let cell_exists : c.args.cell < length c.self.inside.places.items = unlink_cell c.self.inside.ends.items c.self.inside.places.items c.args.self.now c.self.view_is c.self.invariant c.args.cell c.requires in omega arith

pub index_mut-requires-2 : goal.index_mut-requires-2
index_mut-requires-2 c =
    let owner_exists : c.unwrap-owner.result < length c.self.inside.ends.items =
    unlink_owner c.self.inside.ends.items c.self.inside.places.items c.args.self.now c.self.view_is c.self.invariant c.args.cell c.requires c.index.result.now c.index.ensures c.unwrap-owner.result c.unwrap-owner.ensures in
    omega arith

pub invariant_of-self : goal.invariant_of-self
invariant_of-self c =
    (unlink_made c.self.inside.ends.items c.self.inside.places.items c.args.self.now c.self.view_is c.self.invariant c.args.cell c.requires
    c.index.result.now c.index.ensures c.unwrap-owner.result c.index-ends.result.now c.without.result _ c.join.new.places
    c.unwrap-owner.ensures c.index-ends.ensures (take_at c.join.new.places _ c.self.inside.places.len (omega arith)) (omega arith) c.without.ensures
    (λ x. c.join.ensures x ∙ ap (λ s. joined c.index.result.now.previous c.index.result.now.next x (place_of_cell s x)) c.as_mut_slice.ensures.value)).invariant

pub returns-clause-value : goal.returns-clause-value
returns-clause-value c =
    (unlink_made c.self.inside.ends.items c.self.inside.places.items c.args.self.now c.self.view_is c.self.invariant c.args.cell c.requires
    c.index.result.now c.index.ensures c.unwrap-owner.result c.index-ends.result.now c.without.result _ c.join.new.places
    c.unwrap-owner.ensures c.index-ends.ensures (take_at c.join.new.places _ c.self.inside.places.len (omega arith)) (omega arith) c.without.ensures
    (λ x. c.join.ensures x ∙ ap (λ s. joined c.index.result.now.previous c.index.result.now.next x (place_of_cell s x)) c.as_mut_slice.ensures.value)).view

pub returns-clause-owners : goal.returns-clause-owners
returns-clause-owners c k =
    let now =
    (unlink_made c.self.inside.ends.items c.self.inside.places.items c.args.self.now c.self.view_is c.self.invariant c.args.cell c.requires
    c.index.result.now c.index.ensures c.unwrap-owner.result c.index-ends.result.now c.without.result _ c.join.new.places
    c.unwrap-owner.ensures c.index-ends.ensures (take_at c.join.new.places _ c.self.inside.places.len (omega arith)) (omega arith) c.without.ensures
    (λ x. c.join.ensures x ∙ ap (λ s. joined c.index.result.now.previous c.index.result.now.next x (place_of_cell s x)) c.as_mut_slice.ensures.value)) in
    subst (λ (w : ListsByOwner). owner_of w k ≡ (if k == c.args.cell then None else owner_of c.args.self.now k)) (sym now.view)
    (unlink_owner_of c.args.self.now c.args.cell (read_each_once _ _ _ c.self.view_is c.self.invariant) (read_each_once _ _ _ now.view now.invariant) k)
