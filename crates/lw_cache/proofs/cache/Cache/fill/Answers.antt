use Rattle.std.proofs.Common.{◌≡◌, ℕ, ◌+◌, ◌<◌, ◌≤◌, List, [], ◌∷◌, ◌++◌, length, vec_len, vec_capacity, MatchOption, subst, ap, sym, ◌∙◌, arith}
use Rattle.std.proofs.lemmas.List.{length_push}
use Rattle.lw_words.specs.declared.kept.KeptAnswer.{KeptAnswer}
use Rattle.lw_cache.specs.Caching.{Claim, Caching, IsClaimOf, kept_answer, without_claim}
use Rattle.lw_cache.specs.bodies.Trie.{node_at, word_of, claims_of, no_answer, IsStored}
use Rattle.lw_cache.specs.bodies.Filling.{ComparedTo, AreMarked, IsHeld, IsEndOf, without_held}
use Rattle.lw_cache.specs.declared.node.Held.{Held}
use Rattle.lw_cache.proofs.ClaimLemmas.{held_claim, end_within, claim_word, fill_made, fill_stored, release_stored, release_claims}
use Rattle.lw_cache.proofs.HeldLemmas.{fewer_held}
use Rattle.lw_cache.proofs.KeepLemmas.{IsKeptMade, see_claims, see_ok, see_err, see_known}
use Rattle.lw_cache.proofs.RoomLemmas.{room_filled}
use Rattle.lw_cache.proofs.cache.Cache.fill.Goals as goal

pub end_of-end-requires : goal.end_of-end-requires
end_of-end-requires c =
    let pending : IsClaimOf (claims_of (node_at c.self.inside.nodes.items) c.self.inside.held.items) c.args.number c.args.word =
    subst (λ (l : List Claim). IsClaimOf l c.args.number c.args.word) (ap (λ (v : Caching). v.claims) (sym c.self.view_is)) c.requires.pending in
    subst (λ (l : List Held). IsHeld l c.args.number) (sym c.deref.ensures.value)
    (held_claim (node_at c.self.inside.nodes.items) (length c.self.inside.nodes.items) c.self.inside.held.items c.self.inside.kept.answers c.self.invariant.0 c.args.number c.args.word pending)

pub tell_at-found-requires-clause-end : goal.tell_at-found-requires-clause-end
tell_at-found-requires-clause-end c =
    let pending : IsClaimOf (claims_of (node_at c.self.inside.nodes.items) c.self.inside.held.items) c.args.number c.args.word =
    subst (λ (l : List Claim). IsClaimOf l c.args.number c.args.word) (ap (λ (v : Caching). v.claims) (sym c.self.view_is)) c.requires.pending in
    let is_end : IsEndOf c.self.inside.held.items c.args.number c.end_of-end.result = subst (λ (l : List Held). IsEndOf l c.args.number c.end_of-end.result) c.deref.ensures.value c.end_of-end.ensures in
    let within : c.end_of-end.result < length c.self.inside.nodes.items = end_within (node_at c.self.inside.nodes.items) (length c.self.inside.nodes.items) c.self.inside.held.items c.self.inside.kept.answers c.self.invariant.0 c.args.number c.end_of-end.result is_end in
    let word : word_of (node_at c.self.inside.nodes.items) c.end_of-end.result ≡ c.args.word = claim_word (node_at c.self.inside.nodes.items) (length c.self.inside.nodes.items) c.self.inside.held.items c.self.inside.kept.answers c.self.invariant.0 c.args.number c.args.word c.end_of-end.result pending is_end in
    within

pub tell_at-found-requires-clause-outs : goal.tell_at-found-requires-clause-outs
tell_at-found-requires-clause-outs c =
    let pending : IsClaimOf (claims_of (node_at c.self.inside.nodes.items) c.self.inside.held.items) c.args.number c.args.word =
    subst (λ (l : List Claim). IsClaimOf l c.args.number c.args.word) (ap (λ (v : Caching). v.claims) (sym c.self.view_is)) c.requires.pending in
    let is_end : IsEndOf c.self.inside.held.items c.args.number c.end_of-end.result = subst (λ (l : List Held). IsEndOf l c.args.number c.end_of-end.result) c.deref.ensures.value c.end_of-end.ensures in
    let within : c.end_of-end.result < length c.self.inside.nodes.items = end_within (node_at c.self.inside.nodes.items) (length c.self.inside.nodes.items) c.self.inside.held.items c.self.inside.kept.answers c.self.invariant.0 c.args.number c.end_of-end.result is_end in
    let word : word_of (node_at c.self.inside.nodes.items) c.end_of-end.result ≡ c.args.word = claim_word (node_at c.self.inside.nodes.items) (length c.self.inside.nodes.items) c.self.inside.held.items c.self.inside.kept.answers c.self.invariant.0 c.args.number c.args.word c.end_of-end.result pending is_end in
    ap (λ (o : List ℕ). length o) c.as_slice.ensures ∙ (c.requires.lengths ∙ ap (λ (w : List ℕ). length w) (sym word))

pub tell_at-found-requires-clause-answer : goal.tell_at-found-requires-clause-answer
tell_at-found-requires-clause-answer c =
    let pending : IsClaimOf (claims_of (node_at c.self.inside.nodes.items) c.self.inside.held.items) c.args.number c.args.word =
    subst (λ (l : List Claim). IsClaimOf l c.args.number c.args.word) (ap (λ (v : Caching). v.claims) (sym c.self.view_is)) c.requires.pending in
    let is_end : IsEndOf c.self.inside.held.items c.args.number c.end_of-end.result = subst (λ (l : List Held). IsEndOf l c.args.number c.end_of-end.result) c.deref.ensures.value c.end_of-end.ensures in
    let within : c.end_of-end.result < length c.self.inside.nodes.items = end_within (node_at c.self.inside.nodes.items) (length c.self.inside.nodes.items) c.self.inside.held.items c.self.inside.kept.answers c.self.invariant.0 c.args.number c.end_of-end.result is_end in
    let word : word_of (node_at c.self.inside.nodes.items) c.end_of-end.result ≡ c.args.word = claim_word (node_at c.self.inside.nodes.items) (length c.self.inside.nodes.items) c.self.inside.held.items c.self.inside.kept.answers c.self.invariant.0 c.args.number c.args.word c.end_of-end.result pending is_end in
    let held : IsHeld c.self.inside.held.items c.args.number = (is_end.0, is_end.1, is_end.2) in
    let fewer : length (without_held c.args.number c.self.inside.held.items) + 1 ≤ length c.self.inside.held.items = fewer_held c.args.number c.self.inside.held.items held in
    let few : length c.self.inside.kept.answers < no_answer = omega (arith, fewer, c.self.invariant.1.kept_few) in
    omega (arith, few, c.len-second.ensures)

pub reclaim-requires-clause-trie : goal.reclaim-requires-clause-trie
reclaim-requires-clause-trie c =
    let pending : IsClaimOf (claims_of (node_at c.self.inside.nodes.items) c.self.inside.held.items) c.args.number c.args.word =
    subst (λ (l : List Claim). IsClaimOf l c.args.number c.args.word) (ap (λ (v : Caching). v.claims) (sym c.self.view_is)) c.requires.pending in
    let is_end : IsEndOf c.self.inside.held.items c.args.number c.end_of-end.result = subst (λ (l : List Held). IsEndOf l c.args.number c.end_of-end.result) c.deref.ensures.value c.end_of-end.ensures in
    let within : c.end_of-end.result < length c.self.inside.nodes.items = end_within (node_at c.self.inside.nodes.items) (length c.self.inside.nodes.items) c.self.inside.held.items c.self.inside.kept.answers c.self.invariant.0 c.args.number c.end_of-end.result is_end in
    let word : word_of (node_at c.self.inside.nodes.items) c.end_of-end.result ≡ c.args.word = claim_word (node_at c.self.inside.nodes.items) (length c.self.inside.nodes.items) c.self.inside.held.items c.self.inside.kept.answers c.self.invariant.0 c.args.number c.args.word c.end_of-end.result pending is_end in
    let held : IsHeld c.self.inside.held.items c.args.number = (is_end.0, is_end.1, is_end.2) in
    let fewer : length (without_held c.args.number c.self.inside.held.items) + 1 ≤ length c.self.inside.held.items = fewer_held c.args.number c.self.inside.held.items held in
    let few : length c.self.inside.kept.answers < no_answer = omega (arith, fewer, c.self.invariant.1.kept_few) in
    let new : KeptAnswer = kept_answer c.args.instance c.args.run c.args.word c.args.outs in
    let outs : c.as_slice.result.now ≡ c.args.outs = c.as_slice.ensures in
    let marked_long : length c.tell_at-found.new.nodes.items ≡ length c.self.inside.nodes.items = omega (arith, c.tell_at-found.ensures.len) in
    let compared : ComparedTo (node_at c.self.inside.nodes.items) (length c.self.inside.nodes.items) (word_of (node_at c.self.inside.nodes.items) c.end_of-end.result) c.args.outs 0 c.tell_at-found.result =
    subst (λ (o : List ℕ). ComparedTo (node_at c.self.inside.nodes.items) (length c.self.inside.nodes.items) (word_of (node_at c.self.inside.nodes.items) c.end_of-end.result) o 0 c.tell_at-found.result) outs c.tell_at-found.ensures.found in
    let told : MatchOption c.tell_at-found.result (AreMarked (node_at c.self.inside.nodes.items) (node_at c.tell_at-found.new.nodes.items) (length c.self.inside.nodes.items) (word_of (node_at c.self.inside.nodes.items) c.end_of-end.result) c.args.outs c.len-second.result 0) (λ _. c.tell_at-found.new.nodes.items ≡ c.self.inside.nodes.items) =
    subst (λ (o : List ℕ). MatchOption c.tell_at-found.result (AreMarked (node_at c.self.inside.nodes.items) (node_at c.tell_at-found.new.nodes.items) (length c.self.inside.nodes.items) (word_of (node_at c.self.inside.nodes.items) c.end_of-end.result) o c.len-second.result 0) (λ _. c.tell_at-found.new.nodes.items ≡ c.self.inside.nodes.items)) outs c.tell_at-found.ensures.told in
    let mid : IsStored (node_at c.tell_at-found.new.nodes.items) (length c.tell_at-found.new.nodes.items) c.self.inside.held.items (c.self.inside.kept.answers ++ new ∷ []) =
    (fill_stored c.self.inside.nodes.items c.tell_at-found.new.nodes.items c.self.inside.held.items c.self.inside.kept.answers c.self.invariant.0 few new c.requires.lengths
    c.len-second.result c.len-second.ensures c.end_of-end.result within word marked_long c.tell_at-found.result compared told) in
    mid.trie

pub reclaim-requires-clause-end : goal.reclaim-requires-clause-end
reclaim-requires-clause-end c =
    let pending : IsClaimOf (claims_of (node_at c.self.inside.nodes.items) c.self.inside.held.items) c.args.number c.args.word =
    subst (λ (l : List Claim). IsClaimOf l c.args.number c.args.word) (ap (λ (v : Caching). v.claims) (sym c.self.view_is)) c.requires.pending in
    let is_end : IsEndOf c.self.inside.held.items c.args.number c.end_of-end.result = subst (λ (l : List Held). IsEndOf l c.args.number c.end_of-end.result) c.deref.ensures.value c.end_of-end.ensures in
    let within : c.end_of-end.result < length c.self.inside.nodes.items = end_within (node_at c.self.inside.nodes.items) (length c.self.inside.nodes.items) c.self.inside.held.items c.self.inside.kept.answers c.self.invariant.0 c.args.number c.end_of-end.result is_end in
    let word : word_of (node_at c.self.inside.nodes.items) c.end_of-end.result ≡ c.args.word = claim_word (node_at c.self.inside.nodes.items) (length c.self.inside.nodes.items) c.self.inside.held.items c.self.inside.kept.answers c.self.invariant.0 c.args.number c.args.word c.end_of-end.result pending is_end in
    let held : IsHeld c.self.inside.held.items c.args.number = (is_end.0, is_end.1, is_end.2) in
    let fewer : length (without_held c.args.number c.self.inside.held.items) + 1 ≤ length c.self.inside.held.items = fewer_held c.args.number c.self.inside.held.items held in
    let few : length c.self.inside.kept.answers < no_answer = omega (arith, fewer, c.self.invariant.1.kept_few) in
    omega (arith, within, c.tell_at-found.ensures.len)

pub reclaim-requires-clause-least : goal.reclaim-requires-clause-least
reclaim-requires-clause-least c =
    let pending : IsClaimOf (claims_of (node_at c.self.inside.nodes.items) c.self.inside.held.items) c.args.number c.args.word =
    subst (λ (l : List Claim). IsClaimOf l c.args.number c.args.word) (ap (λ (v : Caching). v.claims) (sym c.self.view_is)) c.requires.pending in
    let is_end : IsEndOf c.self.inside.held.items c.args.number c.end_of-end.result = subst (λ (l : List Held). IsEndOf l c.args.number c.end_of-end.result) c.deref.ensures.value c.end_of-end.ensures in
    let within : c.end_of-end.result < length c.self.inside.nodes.items = end_within (node_at c.self.inside.nodes.items) (length c.self.inside.nodes.items) c.self.inside.held.items c.self.inside.kept.answers c.self.invariant.0 c.args.number c.end_of-end.result is_end in
    let word : word_of (node_at c.self.inside.nodes.items) c.end_of-end.result ≡ c.args.word = claim_word (node_at c.self.inside.nodes.items) (length c.self.inside.nodes.items) c.self.inside.held.items c.self.inside.kept.answers c.self.invariant.0 c.args.number c.args.word c.end_of-end.result pending is_end in
    let held : IsHeld c.self.inside.held.items c.args.number = (is_end.0, is_end.1, is_end.2) in
    let fewer : length (without_held c.args.number c.self.inside.held.items) + 1 ≤ length c.self.inside.held.items = fewer_held c.args.number c.self.inside.held.items held in
    let few : length c.self.inside.kept.answers < no_answer = omega (arith, fewer, c.self.invariant.1.kept_few) in
    let new : KeptAnswer = kept_answer c.args.instance c.args.run c.args.word c.args.outs in
    let outs : c.as_slice.result.now ≡ c.args.outs = c.as_slice.ensures in
    let marked_long : length c.tell_at-found.new.nodes.items ≡ length c.self.inside.nodes.items = omega (arith, c.tell_at-found.ensures.len) in
    let compared : ComparedTo (node_at c.self.inside.nodes.items) (length c.self.inside.nodes.items) (word_of (node_at c.self.inside.nodes.items) c.end_of-end.result) c.args.outs 0 c.tell_at-found.result =
    subst (λ (o : List ℕ). ComparedTo (node_at c.self.inside.nodes.items) (length c.self.inside.nodes.items) (word_of (node_at c.self.inside.nodes.items) c.end_of-end.result) o 0 c.tell_at-found.result) outs c.tell_at-found.ensures.found in
    let told : MatchOption c.tell_at-found.result (AreMarked (node_at c.self.inside.nodes.items) (node_at c.tell_at-found.new.nodes.items) (length c.self.inside.nodes.items) (word_of (node_at c.self.inside.nodes.items) c.end_of-end.result) c.args.outs c.len-second.result 0) (λ _. c.tell_at-found.new.nodes.items ≡ c.self.inside.nodes.items) =
    subst (λ (o : List ℕ). MatchOption c.tell_at-found.result (AreMarked (node_at c.self.inside.nodes.items) (node_at c.tell_at-found.new.nodes.items) (length c.self.inside.nodes.items) (word_of (node_at c.self.inside.nodes.items) c.end_of-end.result) o c.len-second.result 0) (λ _. c.tell_at-found.new.nodes.items ≡ c.self.inside.nodes.items)) outs c.tell_at-found.ensures.told in
    let mid : IsStored (node_at c.tell_at-found.new.nodes.items) (length c.tell_at-found.new.nodes.items) c.self.inside.held.items (c.self.inside.kept.answers ++ new ∷ []) =
    (fill_stored c.self.inside.nodes.items c.tell_at-found.new.nodes.items c.self.inside.held.items c.self.inside.kept.answers c.self.invariant.0 few new c.requires.lengths
    c.len-second.result c.len-second.ensures c.end_of-end.result within word marked_long c.tell_at-found.result compared told) in
    mid.least

pub invariant_of-self : goal.invariant_of-self
invariant_of-self c =
    let pending : IsClaimOf (claims_of (node_at c.self.inside.nodes.items) c.self.inside.held.items) c.args.number c.args.word =
    subst (λ (l : List Claim). IsClaimOf l c.args.number c.args.word) (ap (λ (v : Caching). v.claims) (sym c.self.view_is)) c.requires.pending in
    let is_end : IsEndOf c.self.inside.held.items c.args.number c.end_of-end.result = subst (λ (l : List Held). IsEndOf l c.args.number c.end_of-end.result) c.deref.ensures.value c.end_of-end.ensures in
    let within : c.end_of-end.result < length c.self.inside.nodes.items = end_within (node_at c.self.inside.nodes.items) (length c.self.inside.nodes.items) c.self.inside.held.items c.self.inside.kept.answers c.self.invariant.0 c.args.number c.end_of-end.result is_end in
    let word : word_of (node_at c.self.inside.nodes.items) c.end_of-end.result ≡ c.args.word = claim_word (node_at c.self.inside.nodes.items) (length c.self.inside.nodes.items) c.self.inside.held.items c.self.inside.kept.answers c.self.invariant.0 c.args.number c.args.word c.end_of-end.result pending is_end in
    let held : IsHeld c.self.inside.held.items c.args.number = (is_end.0, is_end.1, is_end.2) in
    let fewer : length (without_held c.args.number c.self.inside.held.items) + 1 ≤ length c.self.inside.held.items = fewer_held c.args.number c.self.inside.held.items held in
    let few : length c.self.inside.kept.answers < no_answer = omega (arith, fewer, c.self.invariant.1.kept_few) in
    let new : KeptAnswer = kept_answer c.args.instance c.args.run c.args.word c.args.outs in
    let outs : c.as_slice.result.now ≡ c.args.outs = c.as_slice.ensures in
    let marked_long : length c.tell_at-found.new.nodes.items ≡ length c.self.inside.nodes.items = omega (arith, c.tell_at-found.ensures.len) in
    let compared : ComparedTo (node_at c.self.inside.nodes.items) (length c.self.inside.nodes.items) (word_of (node_at c.self.inside.nodes.items) c.end_of-end.result) c.args.outs 0 c.tell_at-found.result =
    subst (λ (o : List ℕ). ComparedTo (node_at c.self.inside.nodes.items) (length c.self.inside.nodes.items) (word_of (node_at c.self.inside.nodes.items) c.end_of-end.result) o 0 c.tell_at-found.result) outs c.tell_at-found.ensures.found in
    let told : MatchOption c.tell_at-found.result (AreMarked (node_at c.self.inside.nodes.items) (node_at c.tell_at-found.new.nodes.items) (length c.self.inside.nodes.items) (word_of (node_at c.self.inside.nodes.items) c.end_of-end.result) c.args.outs c.len-second.result 0) (λ _. c.tell_at-found.new.nodes.items ≡ c.self.inside.nodes.items) =
    subst (λ (o : List ℕ). MatchOption c.tell_at-found.result (AreMarked (node_at c.self.inside.nodes.items) (node_at c.tell_at-found.new.nodes.items) (length c.self.inside.nodes.items) (word_of (node_at c.self.inside.nodes.items) c.end_of-end.result) o c.len-second.result 0) (λ _. c.tell_at-found.new.nodes.items ≡ c.self.inside.nodes.items)) outs c.tell_at-found.ensures.told in
    let mid : IsStored (node_at c.tell_at-found.new.nodes.items) (length c.tell_at-found.new.nodes.items) c.self.inside.held.items (c.self.inside.kept.answers ++ new ∷ []) =
    (fill_stored c.self.inside.nodes.items c.tell_at-found.new.nodes.items c.self.inside.held.items c.self.inside.kept.answers c.self.invariant.0 few new c.requires.lengths
    c.len-second.result c.len-second.ensures c.end_of-end.result within word marked_long c.tell_at-found.result compared told) in
    let long : length c.reclaim.new.nodes.items ≡ length c.tell_at-found.new.nodes.items = omega (arith, c.reclaim.ensures.len) in (
      subst (λ (h : List Held). IsStored (node_at c.reclaim.new.nodes.items) (length c.reclaim.new.nodes.items) h c.put.new.kept.answers) (sym c.let_go.ensures.held)
          (subst (λ (l : List KeptAnswer). IsStored (node_at c.reclaim.new.nodes.items) (length c.reclaim.new.nodes.items) (without_held c.args.number c.self.inside.held.items) l) (sym c.put.ensures.answers)
          (release_stored c.tell_at-found.new.nodes.items c.reclaim.new.nodes.items c.self.inside.held.items (c.self.inside.kept.answers ++ new ∷ []) mid c.args.number c.end_of-end.result is_end c.reclaim.ensures.nodes long)),
      room_filled c.self.inside.words c.self.inside.letters (vec_len c.self.inside.nodes) (vec_capacity c.self.inside.nodes) (vec_len c.self.inside.held) (vec_capacity c.self.inside.held) (length c.self.inside.kept.answers) c.self.inside.kept.room
          (vec_len c.reclaim.new.nodes) (vec_capacity c.reclaim.new.nodes) (vec_len c.let_go.new.held) (vec_capacity c.let_go.new.held) (length c.put.new.kept.answers) c.put.new.kept.room c.self.invariant.1
          (c.reclaim.ensures.len ∙ c.tell_at-found.ensures.len) (c.reclaim.ensures.capacity ∙ c.tell_at-found.ensures.capacity) (omega (arith, fewer, ap (λ (h : List Held). length h) c.let_go.ensures.held)) c.let_go.ensures.capacity
          (ap (λ (l : List KeptAnswer). length l) c.put.ensures.answers ∙ length_push c.self.inside.kept.answers new) c.put.ensures.room,
    )

pub returns-clause-claims : goal.returns-clause-claims
returns-clause-claims c =
    let pending : IsClaimOf (claims_of (node_at c.self.inside.nodes.items) c.self.inside.held.items) c.args.number c.args.word =
    subst (λ (l : List Claim). IsClaimOf l c.args.number c.args.word) (ap (λ (v : Caching). v.claims) (sym c.self.view_is)) c.requires.pending in
    let is_end : IsEndOf c.self.inside.held.items c.args.number c.end_of-end.result = subst (λ (l : List Held). IsEndOf l c.args.number c.end_of-end.result) c.deref.ensures.value c.end_of-end.ensures in
    let within : c.end_of-end.result < length c.self.inside.nodes.items = end_within (node_at c.self.inside.nodes.items) (length c.self.inside.nodes.items) c.self.inside.held.items c.self.inside.kept.answers c.self.invariant.0 c.args.number c.end_of-end.result is_end in
    let word : word_of (node_at c.self.inside.nodes.items) c.end_of-end.result ≡ c.args.word = claim_word (node_at c.self.inside.nodes.items) (length c.self.inside.nodes.items) c.self.inside.held.items c.self.inside.kept.answers c.self.invariant.0 c.args.number c.args.word c.end_of-end.result pending is_end in
    let held : IsHeld c.self.inside.held.items c.args.number = (is_end.0, is_end.1, is_end.2) in
    let fewer : length (without_held c.args.number c.self.inside.held.items) + 1 ≤ length c.self.inside.held.items = fewer_held c.args.number c.self.inside.held.items held in
    let few : length c.self.inside.kept.answers < no_answer = omega (arith, fewer, c.self.invariant.1.kept_few) in
    let new : KeptAnswer = kept_answer c.args.instance c.args.run c.args.word c.args.outs in
    let outs : c.as_slice.result.now ≡ c.args.outs = c.as_slice.ensures in
    let marked_long : length c.tell_at-found.new.nodes.items ≡ length c.self.inside.nodes.items = omega (arith, c.tell_at-found.ensures.len) in
    let compared : ComparedTo (node_at c.self.inside.nodes.items) (length c.self.inside.nodes.items) (word_of (node_at c.self.inside.nodes.items) c.end_of-end.result) c.args.outs 0 c.tell_at-found.result =
    subst (λ (o : List ℕ). ComparedTo (node_at c.self.inside.nodes.items) (length c.self.inside.nodes.items) (word_of (node_at c.self.inside.nodes.items) c.end_of-end.result) o 0 c.tell_at-found.result) outs c.tell_at-found.ensures.found in
    let told : MatchOption c.tell_at-found.result (AreMarked (node_at c.self.inside.nodes.items) (node_at c.tell_at-found.new.nodes.items) (length c.self.inside.nodes.items) (word_of (node_at c.self.inside.nodes.items) c.end_of-end.result) c.args.outs c.len-second.result 0) (λ _. c.tell_at-found.new.nodes.items ≡ c.self.inside.nodes.items) =
    subst (λ (o : List ℕ). MatchOption c.tell_at-found.result (AreMarked (node_at c.self.inside.nodes.items) (node_at c.tell_at-found.new.nodes.items) (length c.self.inside.nodes.items) (word_of (node_at c.self.inside.nodes.items) c.end_of-end.result) o c.len-second.result 0) (λ _. c.tell_at-found.new.nodes.items ≡ c.self.inside.nodes.items)) outs c.tell_at-found.ensures.told in
    let mid : IsStored (node_at c.tell_at-found.new.nodes.items) (length c.tell_at-found.new.nodes.items) c.self.inside.held.items (c.self.inside.kept.answers ++ new ∷ []) =
    (fill_stored c.self.inside.nodes.items c.tell_at-found.new.nodes.items c.self.inside.held.items c.self.inside.kept.answers c.self.invariant.0 few new c.requires.lengths
    c.len-second.result c.len-second.ensures c.end_of-end.result within word marked_long c.tell_at-found.result compared told) in
    let k : IsKeptMade c.self.inside.nodes.items c.tell_at-found.new.nodes.items c.self.inside.held.items c.self.inside.kept.answers new c.clash_of.result =
    fill_made c.self.inside.nodes.items c.tell_at-found.new.nodes.items c.self.inside.held.items c.self.inside.kept.answers c.self.invariant.0 few new c.requires.lengths
    c.len-second.result c.len-second.ensures c.end_of-end.result within word marked_long c.tell_at-found.result c.clash_of.result compared told c.clash_of.ensures.none c.clash_of.ensures.some in
    let long : length c.reclaim.new.nodes.items ≡ length c.tell_at-found.new.nodes.items = omega (arith, c.reclaim.ensures.len) in
    ap (λ (h : List Held). claims_of (node_at c.reclaim.new.nodes.items) h) c.let_go.ensures.held
    ∙ (release_claims c.tell_at-found.new.nodes.items c.reclaim.new.nodes.items c.self.inside.held.items (c.self.inside.kept.answers ++ new ∷ []) mid c.args.number c.end_of-end.result is_end c.reclaim.ensures.nodes long
    ∙ ap (without_claim c.args.number) (see_claims c.self.inside.nodes.items c.tell_at-found.new.nodes.items c.self.inside.held.items c.self.inside.kept.answers _ _ c.args.self.now c.self.view_is new c.clash_of.result k))

pub returns-clause-ok : goal.returns-clause-ok
returns-clause-ok c =
    let pending : IsClaimOf (claims_of (node_at c.self.inside.nodes.items) c.self.inside.held.items) c.args.number c.args.word =
    subst (λ (l : List Claim). IsClaimOf l c.args.number c.args.word) (ap (λ (v : Caching). v.claims) (sym c.self.view_is)) c.requires.pending in
    let is_end : IsEndOf c.self.inside.held.items c.args.number c.end_of-end.result = subst (λ (l : List Held). IsEndOf l c.args.number c.end_of-end.result) c.deref.ensures.value c.end_of-end.ensures in
    let within : c.end_of-end.result < length c.self.inside.nodes.items = end_within (node_at c.self.inside.nodes.items) (length c.self.inside.nodes.items) c.self.inside.held.items c.self.inside.kept.answers c.self.invariant.0 c.args.number c.end_of-end.result is_end in
    let word : word_of (node_at c.self.inside.nodes.items) c.end_of-end.result ≡ c.args.word = claim_word (node_at c.self.inside.nodes.items) (length c.self.inside.nodes.items) c.self.inside.held.items c.self.inside.kept.answers c.self.invariant.0 c.args.number c.args.word c.end_of-end.result pending is_end in
    let held : IsHeld c.self.inside.held.items c.args.number = (is_end.0, is_end.1, is_end.2) in
    let fewer : length (without_held c.args.number c.self.inside.held.items) + 1 ≤ length c.self.inside.held.items = fewer_held c.args.number c.self.inside.held.items held in
    let few : length c.self.inside.kept.answers < no_answer = omega (arith, fewer, c.self.invariant.1.kept_few) in
    let new : KeptAnswer = kept_answer c.args.instance c.args.run c.args.word c.args.outs in
    let outs : c.as_slice.result.now ≡ c.args.outs = c.as_slice.ensures in
    let marked_long : length c.tell_at-found.new.nodes.items ≡ length c.self.inside.nodes.items = omega (arith, c.tell_at-found.ensures.len) in
    let compared : ComparedTo (node_at c.self.inside.nodes.items) (length c.self.inside.nodes.items) (word_of (node_at c.self.inside.nodes.items) c.end_of-end.result) c.args.outs 0 c.tell_at-found.result =
    subst (λ (o : List ℕ). ComparedTo (node_at c.self.inside.nodes.items) (length c.self.inside.nodes.items) (word_of (node_at c.self.inside.nodes.items) c.end_of-end.result) o 0 c.tell_at-found.result) outs c.tell_at-found.ensures.found in
    let told : MatchOption c.tell_at-found.result (AreMarked (node_at c.self.inside.nodes.items) (node_at c.tell_at-found.new.nodes.items) (length c.self.inside.nodes.items) (word_of (node_at c.self.inside.nodes.items) c.end_of-end.result) c.args.outs c.len-second.result 0) (λ _. c.tell_at-found.new.nodes.items ≡ c.self.inside.nodes.items) =
    subst (λ (o : List ℕ). MatchOption c.tell_at-found.result (AreMarked (node_at c.self.inside.nodes.items) (node_at c.tell_at-found.new.nodes.items) (length c.self.inside.nodes.items) (word_of (node_at c.self.inside.nodes.items) c.end_of-end.result) o c.len-second.result 0) (λ _. c.tell_at-found.new.nodes.items ≡ c.self.inside.nodes.items)) outs c.tell_at-found.ensures.told in
    let k : IsKeptMade c.self.inside.nodes.items c.tell_at-found.new.nodes.items c.self.inside.held.items c.self.inside.kept.answers new c.clash_of.result =
    fill_made c.self.inside.nodes.items c.tell_at-found.new.nodes.items c.self.inside.held.items c.self.inside.kept.answers c.self.invariant.0 few new c.requires.lengths
    c.len-second.result c.len-second.ensures c.end_of-end.result within word marked_long c.tell_at-found.result c.clash_of.result compared told c.clash_of.ensures.none c.clash_of.ensures.some in
    see_ok c.self.inside.nodes.items c.tell_at-found.new.nodes.items c.self.inside.held.items c.self.inside.kept.answers _ _ c.args.self.now c.self.view_is new c.clash_of.result k

pub returns-clause-err : goal.returns-clause-err
returns-clause-err c =
    let pending : IsClaimOf (claims_of (node_at c.self.inside.nodes.items) c.self.inside.held.items) c.args.number c.args.word =
    subst (λ (l : List Claim). IsClaimOf l c.args.number c.args.word) (ap (λ (v : Caching). v.claims) (sym c.self.view_is)) c.requires.pending in
    let is_end : IsEndOf c.self.inside.held.items c.args.number c.end_of-end.result = subst (λ (l : List Held). IsEndOf l c.args.number c.end_of-end.result) c.deref.ensures.value c.end_of-end.ensures in
    let within : c.end_of-end.result < length c.self.inside.nodes.items = end_within (node_at c.self.inside.nodes.items) (length c.self.inside.nodes.items) c.self.inside.held.items c.self.inside.kept.answers c.self.invariant.0 c.args.number c.end_of-end.result is_end in
    let word : word_of (node_at c.self.inside.nodes.items) c.end_of-end.result ≡ c.args.word = claim_word (node_at c.self.inside.nodes.items) (length c.self.inside.nodes.items) c.self.inside.held.items c.self.inside.kept.answers c.self.invariant.0 c.args.number c.args.word c.end_of-end.result pending is_end in
    let held : IsHeld c.self.inside.held.items c.args.number = (is_end.0, is_end.1, is_end.2) in
    let fewer : length (without_held c.args.number c.self.inside.held.items) + 1 ≤ length c.self.inside.held.items = fewer_held c.args.number c.self.inside.held.items held in
    let few : length c.self.inside.kept.answers < no_answer = omega (arith, fewer, c.self.invariant.1.kept_few) in
    let new : KeptAnswer = kept_answer c.args.instance c.args.run c.args.word c.args.outs in
    let outs : c.as_slice.result.now ≡ c.args.outs = c.as_slice.ensures in
    let marked_long : length c.tell_at-found.new.nodes.items ≡ length c.self.inside.nodes.items = omega (arith, c.tell_at-found.ensures.len) in
    let compared : ComparedTo (node_at c.self.inside.nodes.items) (length c.self.inside.nodes.items) (word_of (node_at c.self.inside.nodes.items) c.end_of-end.result) c.args.outs 0 c.tell_at-found.result =
    subst (λ (o : List ℕ). ComparedTo (node_at c.self.inside.nodes.items) (length c.self.inside.nodes.items) (word_of (node_at c.self.inside.nodes.items) c.end_of-end.result) o 0 c.tell_at-found.result) outs c.tell_at-found.ensures.found in
    let told : MatchOption c.tell_at-found.result (AreMarked (node_at c.self.inside.nodes.items) (node_at c.tell_at-found.new.nodes.items) (length c.self.inside.nodes.items) (word_of (node_at c.self.inside.nodes.items) c.end_of-end.result) c.args.outs c.len-second.result 0) (λ _. c.tell_at-found.new.nodes.items ≡ c.self.inside.nodes.items) =
    subst (λ (o : List ℕ). MatchOption c.tell_at-found.result (AreMarked (node_at c.self.inside.nodes.items) (node_at c.tell_at-found.new.nodes.items) (length c.self.inside.nodes.items) (word_of (node_at c.self.inside.nodes.items) c.end_of-end.result) o c.len-second.result 0) (λ _. c.tell_at-found.new.nodes.items ≡ c.self.inside.nodes.items)) outs c.tell_at-found.ensures.told in
    let k : IsKeptMade c.self.inside.nodes.items c.tell_at-found.new.nodes.items c.self.inside.held.items c.self.inside.kept.answers new c.clash_of.result =
    fill_made c.self.inside.nodes.items c.tell_at-found.new.nodes.items c.self.inside.held.items c.self.inside.kept.answers c.self.invariant.0 few new c.requires.lengths
    c.len-second.result c.len-second.ensures c.end_of-end.result within word marked_long c.tell_at-found.result c.clash_of.result compared told c.clash_of.ensures.none c.clash_of.ensures.some in
    see_err c.self.inside.nodes.items c.tell_at-found.new.nodes.items c.self.inside.held.items c.self.inside.kept.answers _ _ c.args.self.now c.self.view_is new c.clash_of.result k

pub returns-clause-known : goal.returns-clause-known
returns-clause-known c =
    let pending : IsClaimOf (claims_of (node_at c.self.inside.nodes.items) c.self.inside.held.items) c.args.number c.args.word =
    subst (λ (l : List Claim). IsClaimOf l c.args.number c.args.word) (ap (λ (v : Caching). v.claims) (sym c.self.view_is)) c.requires.pending in
    let is_end : IsEndOf c.self.inside.held.items c.args.number c.end_of-end.result = subst (λ (l : List Held). IsEndOf l c.args.number c.end_of-end.result) c.deref.ensures.value c.end_of-end.ensures in
    let within : c.end_of-end.result < length c.self.inside.nodes.items = end_within (node_at c.self.inside.nodes.items) (length c.self.inside.nodes.items) c.self.inside.held.items c.self.inside.kept.answers c.self.invariant.0 c.args.number c.end_of-end.result is_end in
    let word : word_of (node_at c.self.inside.nodes.items) c.end_of-end.result ≡ c.args.word = claim_word (node_at c.self.inside.nodes.items) (length c.self.inside.nodes.items) c.self.inside.held.items c.self.inside.kept.answers c.self.invariant.0 c.args.number c.args.word c.end_of-end.result pending is_end in
    let held : IsHeld c.self.inside.held.items c.args.number = (is_end.0, is_end.1, is_end.2) in
    let fewer : length (without_held c.args.number c.self.inside.held.items) + 1 ≤ length c.self.inside.held.items = fewer_held c.args.number c.self.inside.held.items held in
    let few : length c.self.inside.kept.answers < no_answer = omega (arith, fewer, c.self.invariant.1.kept_few) in
    let new : KeptAnswer = kept_answer c.args.instance c.args.run c.args.word c.args.outs in
    let outs : c.as_slice.result.now ≡ c.args.outs = c.as_slice.ensures in
    let marked_long : length c.tell_at-found.new.nodes.items ≡ length c.self.inside.nodes.items = omega (arith, c.tell_at-found.ensures.len) in
    let compared : ComparedTo (node_at c.self.inside.nodes.items) (length c.self.inside.nodes.items) (word_of (node_at c.self.inside.nodes.items) c.end_of-end.result) c.args.outs 0 c.tell_at-found.result =
    subst (λ (o : List ℕ). ComparedTo (node_at c.self.inside.nodes.items) (length c.self.inside.nodes.items) (word_of (node_at c.self.inside.nodes.items) c.end_of-end.result) o 0 c.tell_at-found.result) outs c.tell_at-found.ensures.found in
    let told : MatchOption c.tell_at-found.result (AreMarked (node_at c.self.inside.nodes.items) (node_at c.tell_at-found.new.nodes.items) (length c.self.inside.nodes.items) (word_of (node_at c.self.inside.nodes.items) c.end_of-end.result) c.args.outs c.len-second.result 0) (λ _. c.tell_at-found.new.nodes.items ≡ c.self.inside.nodes.items) =
    subst (λ (o : List ℕ). MatchOption c.tell_at-found.result (AreMarked (node_at c.self.inside.nodes.items) (node_at c.tell_at-found.new.nodes.items) (length c.self.inside.nodes.items) (word_of (node_at c.self.inside.nodes.items) c.end_of-end.result) o c.len-second.result 0) (λ _. c.tell_at-found.new.nodes.items ≡ c.self.inside.nodes.items)) outs c.tell_at-found.ensures.told in
    let k : IsKeptMade c.self.inside.nodes.items c.tell_at-found.new.nodes.items c.self.inside.held.items c.self.inside.kept.answers new c.clash_of.result =
    fill_made c.self.inside.nodes.items c.tell_at-found.new.nodes.items c.self.inside.held.items c.self.inside.kept.answers c.self.invariant.0 few new c.requires.lengths
    c.len-second.result c.len-second.ensures c.end_of-end.result within word marked_long c.tell_at-found.result c.clash_of.result compared told c.clash_of.ensures.none c.clash_of.ensures.some in
    see_known c.self.inside.nodes.items c.tell_at-found.new.nodes.items c.self.inside.held.items c.self.inside.kept.answers _ _ c.args.self.now c.self.view_is new c.clash_of.result k c.put.new.kept.answers c.put.ensures.answers
