use Rattle.std.proofs.Common.{◌≡◌, ◌≢◌, ◌↔◌, ◌+◌, ◌-◌, ◌∙◌, ℕ, List, [], ltb, true, length, take, drop, subst, refl, arith}
use Rattle.std.proofs.lemmas.List.{length-drop}
use Rattle.lw_chunks.proofs.ChunkLemmas.{chunk_is, left_is, some_left}
use Rattle.lw_draw.specs.bodies.Walking.{all_walks}
use Rattle.lw_draw.proofs.WalkLemmas.{length-walks}
use Rattle.lw_draw.proofs.walks.WalksChunks.next_chunk.Goals as goal

pub returns-in-Ok-clause-chunk : goal.returns-in-Ok-clause-chunk
returns-in-Ok-clause-chunk c =
    let p = c.self.inside.parts in
    let given : ℕ = c.self.inside.given in
    let l = length-walks p in
    let d : length (drop given (all_walks p)) ≡ length (all_walks p) - given = length-drop given (all_walks p) in
    subst (λ (v : List (List ℕ)). c.truncate.new.self.items ≡ take 512 v) c.self.view_is
    (chunk_is (drop given (all_walks p)) c.truncate.new.self.items c.min-count.result (p.drawn.count - given) 512 c.min-count.ensures (omega (arith, l, d)) (c.truncate.ensures.items ∙ c.in-Ok.ensures.words))

pub returns-in-Ok-clause-rest : goal.returns-in-Ok-clause-rest
returns-in-Ok-clause-rest c =
    let p = c.self.inside.parts in
    let given : ℕ = c.self.inside.given in
    let l = length-walks p in
    subst (λ (v : List (List ℕ)). drop (given + c.min-count.result) (all_walks p) ≡ drop 512 v) c.self.view_is
    (left_is (all_walks p) given c.min-count.result (p.drawn.count - given) 512 (given + c.min-count.result) c.min-count.ensures (omega (arith, l)) refl)

pub returns-in-Ok-clause-more : goal.returns-in-Ok-clause-more
returns-in-Ok-clause-more c =
    let p = c.self.inside.parts in
    let given : ℕ = c.self.inside.given in
    let l = length-walks p in
    let d : length (drop given (all_walks p)) ≡ length (all_walks p) - given = length-drop given (all_walks p) in
    subst (λ (v : List (List ℕ)). (ltb 0 c.min-count.result ≡ true) ↔ (v ≢ [])) c.self.view_is
    (some_left (drop given (all_walks p)) c.min-count.result (p.drawn.count - given) 512 (omega arith) c.min-count.ensures (omega (arith, l, d)))
