use Rattle.std.proofs.Common.{◌≡◌, ℕ, ◌+◌, ◌<◌, ◌≤◌, List, [], ◌∷◌, ◌++◌, length, vec_len, vec_capacity, subst, ap, sym, ◌∙◌, arith}
use Rattle.lw_words.specs.Word.{answers_of}
use Rattle.lw_words.specs.declared.kept.KeptAnswer.{KeptAnswer}
use Rattle.lw_cache.specs.Caching.{Claim, Caching, claim_of, IsUnused}
use Rattle.lw_cache.specs.Standing.{Stands}
use Rattle.lw_cache.specs.declared.known.Known.TheVariants.{No}
use Rattle.lw_cache.specs.bodies.Trie.{node_at, claims_of, no_claim, IsStored}
use Rattle.lw_cache.specs.bodies.Filling.{IsPlaced}
use Rattle.lw_cache.specs.declared.node.Held.{Held}
use Rattle.lw_cache.proofs.ClaimLemmas.{placed_stored, claim_stored, claim_claims}
use Rattle.lw_cache.proofs.RoomLemmas.{room_claimed}
use Rattle.lw_cache.proofs.cache.Cache.claim.Goals as goal

pub reclaim-requires-clause-least : goal.reclaim-requires-clause-least
reclaim-requires-clause-least c =
    let word : c.as_slice.result.now ≡ c.args.w.now = c.as_slice.ensures in
    let placed : IsPlaced c.self.inside.nodes.items c.place-end.new.nodes.items c.args.w.now c.place-end.result =
    subst (λ (w : List ℕ). IsPlaced c.self.inside.nodes.items c.place-end.new.nodes.items w c.place-end.result) word c.place-end.ensures.placed in
    (placed_stored c.self.inside.nodes.items c.place-end.new.nodes.items c.self.inside.held.items c.self.inside.kept.answers c.self.invariant.0 c.args.w.now c.place-end.result placed).least

pub invariant_of-self : goal.invariant_of-self
invariant_of-self c =
    let word : c.as_slice.result.now ≡ c.args.w.now = c.as_slice.ensures in
    let placed : IsPlaced c.self.inside.nodes.items c.place-end.new.nodes.items c.args.w.now c.place-end.result =
    subst (λ (w : List ℕ). IsPlaced c.self.inside.nodes.items c.place-end.new.nodes.items w c.place-end.result) word c.place-end.ensures.placed in
    let long : length c.reclaim.new.nodes.items ≡ length c.place-end.new.nodes.items = omega (arith, c.reclaim.ensures.len) in
    let few : c.args.number < no_claim = omega (arith, c.ranges.number) in
    let claims : claims_of (node_at c.self.inside.nodes.items) c.self.inside.held.items ≡ c.args.self.now.claims = ap (λ (v : Caching). v.claims) c.self.view_is in
    let kept : c.self.inside.kept.answers ≡ c.args.self.now.kept = ap (λ (v : Caching). v.kept) c.self.view_is in
    let free : Stands (answers_of c.self.inside.kept.answers) (claims_of (node_at c.self.inside.nodes.items) c.self.inside.held.items) c.args.w.now No =
    subst (λ (l : List Claim). Stands (answers_of c.self.inside.kept.answers) l c.args.w.now No) (sym claims) (subst (λ (k : List KeptAnswer). Stands (answers_of k) c.args.self.now.claims c.args.w.now No) (sym kept) c.requires.unclaimed) in
    let unused : IsUnused (claims_of (node_at c.self.inside.nodes.items) c.self.inside.held.items) c.args.number = subst (λ (l : List Claim). IsUnused l c.args.number) (sym claims) c.requires.unused in
    let words : c.self.inside.words ≡ c.args.self.now.words = ap (λ (v : Caching). v.words) c.self.view_is in
    let letters : c.self.inside.letters ≡ c.args.self.now.letters = ap (λ (v : Caching). v.letters) c.self.view_is in (
      subst (λ (h : List Held). IsStored (node_at c.reclaim.new.nodes.items) (length c.reclaim.new.nodes.items) h c.self.inside.kept.answers) (sym c.push_reserved.ensures.items)
          (claim_stored c.self.inside.nodes.items c.place-end.new.nodes.items c.self.inside.held.items c.self.inside.kept.answers c.self.invariant.0 c.args.w.now c.place-end.result placed c.reclaim.new.nodes.items c.args.number
          c.reclaim.ensures.nodes long few free unused),
      room_claimed c.self.inside.words c.self.inside.letters (vec_len c.self.inside.nodes) (vec_capacity c.self.inside.nodes) (vec_len c.self.inside.held) (vec_capacity c.self.inside.held) (length c.self.inside.kept.answers) c.self.inside.kept.room
          c.len.result (vec_len c.reclaim.new.nodes) (vec_capacity c.reclaim.new.nodes) (vec_len c.push_reserved.new.self) (vec_capacity c.push_reserved.new.self) c.self.invariant.1
          (omega (arith, words, c.requires.words)) (omega (arith, letters, c.requires.letters, c.len.ensures)) (omega (arith, c.reclaim.ensures.len, c.place-end.ensures.more))
          (subst (λ (m : ℕ). vec_len c.reclaim.new.nodes ≤ vec_len c.self.inside.nodes + m) (ap (λ (w : List ℕ). length w) word ∙ sym c.len.ensures) (omega (arith, c.reclaim.ensures.len, c.place-end.ensures.len)))
          (c.reclaim.ensures.capacity ∙ c.place-end.ensures.capacity) c.push_reserved.ensures.len c.push_reserved.ensures.capacity,
    )

pub returns-clause-claims : goal.returns-clause-claims
returns-clause-claims c =
    let word : c.as_slice.result.now ≡ c.args.w.now = c.as_slice.ensures in
    let placed : IsPlaced c.self.inside.nodes.items c.place-end.new.nodes.items c.args.w.now c.place-end.result =
    subst (λ (w : List ℕ). IsPlaced c.self.inside.nodes.items c.place-end.new.nodes.items w c.place-end.result) word c.place-end.ensures.placed in
    let long : length c.reclaim.new.nodes.items ≡ length c.place-end.new.nodes.items = omega (arith, c.reclaim.ensures.len) in
    let few : c.args.number < no_claim = omega (arith, c.ranges.number) in
    let claims : claims_of (node_at c.self.inside.nodes.items) c.self.inside.held.items ≡ c.args.self.now.claims = ap (λ (v : Caching). v.claims) c.self.view_is in
    let kept : c.self.inside.kept.answers ≡ c.args.self.now.kept = ap (λ (v : Caching). v.kept) c.self.view_is in
    let free : Stands (answers_of c.self.inside.kept.answers) (claims_of (node_at c.self.inside.nodes.items) c.self.inside.held.items) c.args.w.now No =
    subst (λ (l : List Claim). Stands (answers_of c.self.inside.kept.answers) l c.args.w.now No) (sym claims) (subst (λ (k : List KeptAnswer). Stands (answers_of k) c.args.self.now.claims c.args.w.now No) (sym kept) c.requires.unclaimed) in
    let unused : IsUnused (claims_of (node_at c.self.inside.nodes.items) c.self.inside.held.items) c.args.number = subst (λ (l : List Claim). IsUnused l c.args.number) (sym claims) c.requires.unused in
    ap (λ (h : List Held). claims_of (node_at c.reclaim.new.nodes.items) h) c.push_reserved.ensures.items
    ∙ (claim_claims c.self.inside.nodes.items c.place-end.new.nodes.items c.self.inside.held.items c.self.inside.kept.answers c.self.invariant.0 c.args.w.now c.place-end.result placed c.reclaim.new.nodes.items c.args.number
    c.reclaim.ensures.nodes long few free unused
    ∙ ap (λ (l : List Claim). l ++ claim_of c.args.number c.args.w.now ∷ []) claims)
