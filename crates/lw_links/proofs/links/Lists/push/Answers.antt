use Rattle.std.proofs.Common.{◌≡◌, Some, ap, ◌∙◌, arith, length, sym, subst, ◌==◌, if◌then◌else◌}
use Rattle.std.proofs.lemmas.List.{take_at, length-set}
use Rattle.lw_links.specs.Chains.{place_of_cell, joined}
use Rattle.lw_links.specs.declared.links.Place.{Place}
use Rattle.lw_links.proofs.CallLemmas.{push_previous, push_made}
use Rattle.lw_links.specs.Owners.{ListsByOwner, owner_of}
use Rattle.lw_links.proofs.KeepLemmas.{read_each_once}
use Rattle.lw_links.proofs.OwnerLemmas.{push_owner}
use Rattle.lw_links.proofs.links.Lists.push.Goals as goal

pub join-requires-clause-previous_exists : goal.join-requires-clause-previous_exists
join-requires-clause-previous_exists c =
    push_previous c.self.inside.ends.items c.self.inside.places.items c.args.self.now c.self.view_is c.self.invariant
    c.args.owner c.index-ends.result.now (length c.as_mut_slice.result.now) c.requires.owner_exists c.index-ends.ensures (omega (arith, length-set {A = Place}))

pub invariant_of-self : goal.invariant_of-self
invariant_of-self c =
    (push_made c.self.inside.ends.items c.self.inside.places.items c.args.self.now c.self.view_is c.self.invariant
    c.args.owner c.args.cell c.index-ends.result.now _ c.join.new.places c.or.result
    c.requires.owner_exists c.requires.cell_exists c.requires.in_no_list c.index-ends.ensures
    (take_at c.join.new.places _ c.self.inside.places.len (omega (arith, length-set {A = Place}))) (omega (arith, length-set {A = Place})) c.or.ensures
    (λ x. c.join.ensures x ∙ ap (λ s. joined c.index-ends.result.now.last (Some c.args.cell) x (place_of_cell s x)) c.as_mut_slice.ensures.value)).invariant

pub returns-clause-value : goal.returns-clause-value
returns-clause-value c =
    (push_made c.self.inside.ends.items c.self.inside.places.items c.args.self.now c.self.view_is c.self.invariant
    c.args.owner c.args.cell c.index-ends.result.now _ c.join.new.places c.or.result
    c.requires.owner_exists c.requires.cell_exists c.requires.in_no_list c.index-ends.ensures
    (take_at c.join.new.places _ c.self.inside.places.len (omega (arith, length-set {A = Place}))) (omega (arith, length-set {A = Place})) c.or.ensures
    (λ x. c.join.ensures x ∙ ap (λ s. joined c.index-ends.result.now.last (Some c.args.cell) x (place_of_cell s x)) c.as_mut_slice.ensures.value)).view

pub returns-clause-owners : goal.returns-clause-owners
returns-clause-owners c k =
    let now =
    (push_made c.self.inside.ends.items c.self.inside.places.items c.args.self.now c.self.view_is c.self.invariant
    c.args.owner c.args.cell c.index-ends.result.now _ c.join.new.places c.or.result
    c.requires.owner_exists c.requires.cell_exists c.requires.in_no_list c.index-ends.ensures
    (take_at c.join.new.places _ c.self.inside.places.len (omega (arith, length-set {A = Place}))) (omega (arith, length-set {A = Place})) c.or.ensures
    (λ x. c.join.ensures x ∙ ap (λ s. joined c.index-ends.result.now.last (Some c.args.cell) x (place_of_cell s x)) c.as_mut_slice.ensures.value)) in
    subst (λ (w : ListsByOwner). owner_of w k ≡ (if k == c.args.cell then Some c.args.owner else owner_of c.args.self.now k)) (sym now.view)
    (push_owner c.args.self.now c.args.owner c.args.cell (read_each_once _ _ _ c.self.view_is c.self.invariant) (read_each_once _ _ _ now.view now.invariant) c.requires.owner_exists k)
