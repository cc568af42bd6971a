use Rattle.std.proofs.Common.{◌≡◌, length, arith, sym, subst, ◌==◌, if◌then◌else◌, option_map}
use Rattle.std.proofs.lemmas.List.{take_at}
use Rattle.lw_links.proofs.CallLemmas.{move_way, move_previous, move_next, move_made}
use Rattle.lw_links.specs.Owners.{ListsByOwner, owner_of}
use Rattle.lw_links.proofs.KeepLemmas.{read_each_once}
use Rattle.lw_links.proofs.OwnerLemmas.{move_owner}
use Rattle.lw_links.proofs.links.Lists.move_all.Goals as goal

pub give-requires-clause-way_ends : goal.give-requires-clause-way_ends
give-requires-clause-way_ends c =
    move_way c.self.inside.ends.items c.self.inside.places.items c.args.self.now c.self.view_is c.self.invariant c.args.from c.args.to c.requires.apart c.requires.from_exists c.requires.to_exists
    c.index-moved.result.now c.index-kept.result.now c.index-moved.ensures c.index-kept.ensures c.as_mut_slice-places.result.now c.as_mut_slice-places.ensures.value

pub join-requires-clause-previous_exists : goal.join-requires-clause-previous_exists
join-requires-clause-previous_exists c =
    move_previous c.self.inside.ends.items c.self.inside.places.items c.args.self.now c.self.view_is c.self.invariant c.args.from c.args.to c.requires.apart c.requires.from_exists c.requires.to_exists
    c.index-moved.result.now c.index-kept.result.now c.index-moved.ensures c.index-kept.ensures c.as_mut_slice-places.result.now c.as_mut_slice-places.ensures.value
    (length c.give.new.places) (omega arith)

pub join-requires-clause-next_exists : goal.join-requires-clause-next_exists
join-requires-clause-next_exists c =
    move_next c.self.inside.ends.items c.self.inside.places.items c.args.self.now c.self.view_is c.self.invariant c.args.from c.args.to c.requires.apart c.requires.from_exists c.requires.to_exists
    c.index-moved.result.now c.index-kept.result.now c.index-moved.ensures c.index-kept.ensures c.as_mut_slice-places.result.now c.as_mut_slice-places.ensures.value
    (length c.give.new.places) (omega arith)

pub invariant_of-self : goal.invariant_of-self
invariant_of-self c =
    (move_made c.self.inside.ends.items c.self.inside.places.items c.args.self.now c.self.view_is c.self.invariant c.args.from c.args.to c.requires.apart c.requires.from_exists c.requires.to_exists
    c.index-moved.result.now c.index-kept.result.now c.index-moved.ensures c.index-kept.ensures c.as_mut_slice-places.result.now c.as_mut_slice-places.ensures.value
    c.give.new.places _ c.join.new.places c.or.result c.or-2.result
    (take_at c.join.new.places _ c.self.inside.places.len (omega arith)) (omega arith) c.give.ensures c.join.ensures c.or.ensures c.or-2.ensures).invariant

pub returns-clause-value : goal.returns-clause-value
returns-clause-value c =
    (move_made c.self.inside.ends.items c.self.inside.places.items c.args.self.now c.self.view_is c.self.invariant c.args.from c.args.to c.requires.apart c.requires.from_exists c.requires.to_exists
    c.index-moved.result.now c.index-kept.result.now c.index-moved.ensures c.index-kept.ensures c.as_mut_slice-places.result.now c.as_mut_slice-places.ensures.value
    c.give.new.places _ c.join.new.places c.or.result c.or-2.result
    (take_at c.join.new.places _ c.self.inside.places.len (omega arith)) (omega arith) c.give.ensures c.join.ensures c.or.ensures c.or-2.ensures).view

pub returns-clause-owners : goal.returns-clause-owners
returns-clause-owners c k =
    let now =
    (move_made c.self.inside.ends.items c.self.inside.places.items c.args.self.now c.self.view_is c.self.invariant c.args.from c.args.to c.requires.apart c.requires.from_exists c.requires.to_exists
    c.index-moved.result.now c.index-kept.result.now c.index-moved.ensures c.index-kept.ensures c.as_mut_slice-places.result.now c.as_mut_slice-places.ensures.value
    c.give.new.places _ c.join.new.places c.or.result c.or-2.result
    (take_at c.join.new.places _ c.self.inside.places.len (omega arith)) (omega arith) c.give.ensures c.join.ensures c.or.ensures c.or-2.ensures) in
    subst (λ (w : ListsByOwner). owner_of w k ≡ option_map (λ o. if o == c.args.from then c.args.to else o) (owner_of c.args.self.now k)) (sym now.view)
    (move_owner c.args.self.now c.args.from c.args.to (read_each_once _ _ _ c.self.view_is c.self.invariant) (read_each_once _ _ _ now.view now.invariant) c.requires.apart c.requires.from_exists c.requires.to_exists k)
