use Rattle.std.proofs.Common.{◌≡◌, List, length, vec_len, vec_capacity, subst, ap, sym, ◌∙◌, arith}
use Rattle.lw_cache.specs.Caching.{Claim, Caching, IsUnused, without_claim}
use Rattle.lw_cache.specs.bodies.Trie.{node_at, claims_of, IsStored}
use Rattle.lw_cache.specs.bodies.Filling.{IsHeld, IsEndOf}
use Rattle.lw_cache.specs.declared.node.Held.{Held}
use Rattle.lw_cache.proofs.ClaimLemmas.{held_used, end_within, release_stored, release_claims}
use Rattle.lw_cache.proofs.RoomLemmas.{room_released}
use Rattle.lw_cache.proofs.cache.Cache.release.Goals as goal

pub end_of-end-requires : goal.end_of-end-requires
end_of-end-requires c =
    subst (λ (l : List Held). IsHeld l c.args.number) (sym c.deref.ensures.value)
    (held_used (node_at c.self.inside.nodes.items) (length c.self.inside.nodes.items) c.self.inside.held.items c.self.inside.kept.answers c.self.invariant.0 c.args.number
    (subst (λ (l : List Claim). ¬ IsUnused l c.args.number) (ap (λ (v : Caching). v.claims) (sym c.self.view_is)) c.requires))

pub reclaim-requires-clause-end : goal.reclaim-requires-clause-end
reclaim-requires-clause-end c =
    let is_end : IsEndOf c.self.inside.held.items c.args.number c.end_of-end.result = subst (λ (l : List Held). IsEndOf l c.args.number c.end_of-end.result) c.deref.ensures.value c.end_of-end.ensures in
    end_within (node_at c.self.inside.nodes.items) (length c.self.inside.nodes.items) c.self.inside.held.items c.self.inside.kept.answers c.self.invariant.0 c.args.number c.end_of-end.result is_end

pub invariant_of-self : goal.invariant_of-self
invariant_of-self c =
    let is_end : IsEndOf c.self.inside.held.items c.args.number c.end_of-end.result = subst (λ (l : List Held). IsEndOf l c.args.number c.end_of-end.result) c.deref.ensures.value c.end_of-end.ensures in
    let long : length c.reclaim.new.nodes.items ≡ length c.self.inside.nodes.items = omega (arith, c.reclaim.ensures.len) in (
      subst (λ (h : List Held). IsStored (node_at c.reclaim.new.nodes.items) (length c.reclaim.new.nodes.items) h c.self.inside.kept.answers) (sym c.let_go.ensures.held)
          (release_stored c.self.inside.nodes.items c.reclaim.new.nodes.items c.self.inside.held.items c.self.inside.kept.answers c.self.invariant.0 c.args.number c.end_of-end.result is_end c.reclaim.ensures.nodes long),
      room_released c.self.inside.words c.self.inside.letters (vec_len c.self.inside.nodes) (vec_capacity c.self.inside.nodes) (vec_len c.self.inside.held) (vec_capacity c.self.inside.held) (length c.self.inside.kept.answers) c.self.inside.kept.room
          (vec_len c.reclaim.new.nodes) (vec_capacity c.reclaim.new.nodes) (vec_len c.let_go.new.held) (vec_capacity c.let_go.new.held) c.self.invariant.1 c.reclaim.ensures.len c.reclaim.ensures.capacity c.let_go.ensures.len c.let_go.ensures.capacity,
    )

pub returns-clause-claims : goal.returns-clause-claims
returns-clause-claims c =
    let is_end : IsEndOf c.self.inside.held.items c.args.number c.end_of-end.result = subst (λ (l : List Held). IsEndOf l c.args.number c.end_of-end.result) c.deref.ensures.value c.end_of-end.ensures in
    let long : length c.reclaim.new.nodes.items ≡ length c.self.inside.nodes.items = omega (arith, c.reclaim.ensures.len) in
    ap (λ (h : List Held). claims_of (node_at c.reclaim.new.nodes.items) h) c.let_go.ensures.held
    ∙ (release_claims c.self.inside.nodes.items c.reclaim.new.nodes.items c.self.inside.held.items c.self.inside.kept.answers c.self.invariant.0 c.args.number c.end_of-end.result is_end c.reclaim.ensures.nodes long
    ∙ ap (λ (v : Caching). without_claim c.args.number v.claims) c.self.view_is)
