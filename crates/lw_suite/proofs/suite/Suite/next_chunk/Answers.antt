use Rattle.std.proofs.Common.{◌≡◌, ◌≢◌, ◌↔◌, ◌-◌, ◌*◌, ℕ, List, [], ltb, true, length, take, drop, subst, ◌∙◌, arith}
use Rattle.std.proofs.lemmas.List.{length-drop}
use Rattle.lw_suite.proofs.PlaceLemmas.{length-all}
use Rattle.lw_chunks.proofs.ChunkLemmas.{chunk_is, left_is, some_left}
use Rattle.lw_suite.specs.bodies.Places.{all_words, ends, number_of}
use Rattle.lw_suite.proofs.suite.Suite.next_chunk.Goals as goal

pub returns-in-Ok-clause-chunk : goal.returns-in-Ok-clause-chunk
returns-in-Ok-clause-chunk c =
    let p = c.self.inside.parts in
    let start : ℕ = number_of p c.self.inside.place in
    let all : length (all_words p) ≡ length p.access * p.middles * length (ends p) = length-all p in
    let d : length (drop start (all_words p)) ≡ length (all_words p) - start = length-drop start (all_words p) in
    let left : c.word_count.result - c.number.result ≡ length (drop start (all_words p)) = let w = c.word_count.ensures in let n = c.number.ensures in omega arith in
    subst (λ (v : List (List ℕ)). c.truncate.new.self.items ≡ take 512 v) c.self.view_is
    (chunk_is (drop start (all_words p)) c.truncate.new.self.items c.min-count.result (c.word_count.result - c.number.result) 512 c.min-count.ensures left (c.truncate.ensures.items ∙ c.in-Ok.ensures.words))

pub returns-in-Ok-clause-left : goal.returns-in-Ok-clause-left
returns-in-Ok-clause-left c =
    let p = c.self.inside.parts in
    let start : ℕ = number_of p c.self.inside.place in
    let all : length (all_words p) ≡ length p.access * p.middles * length (ends p) = length-all p in
    let left : c.word_count.result - c.number.result ≡ length (all_words p) - start = let w = c.word_count.ensures in let n = c.number.ensures in omega arith in
    subst (λ (v : List (List ℕ)). drop (number_of p c.in-Ok.place) (all_words p) ≡ drop 512 v) c.self.view_is
    (left_is (all_words p) start c.min-count.result (c.word_count.result - c.number.result) 512 (number_of p c.in-Ok.place) c.min-count.ensures left c.in-Ok.ensures.number)

pub returns-in-Ok-clause-more : goal.returns-in-Ok-clause-more
returns-in-Ok-clause-more c =
    let p = c.self.inside.parts in
    let start : ℕ = number_of p c.self.inside.place in
    let all : length (all_words p) ≡ length p.access * p.middles * length (ends p) = length-all p in
    let d : length (drop start (all_words p)) ≡ length (all_words p) - start = length-drop start (all_words p) in
    let left : c.word_count.result - c.number.result ≡ length (drop start (all_words p)) = let w = c.word_count.ensures in let n = c.number.ensures in omega arith in
    subst (λ (v : List (List ℕ)). (ltb 0 c.min-count.result ≡ true) ↔ (v ≢ [])) c.self.view_is
    (some_left (drop start (all_words p)) c.min-count.result (c.word_count.result - c.number.result) 512 (omega arith) c.min-count.ensures left)
