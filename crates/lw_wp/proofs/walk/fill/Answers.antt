use Rattle.std.proofs.Common.{◌≤◌, ◌⊎◌, inl, inr, length, ◌∙◌, arith}
use Rattle.lw_wp.specs.bodies.Cursors.{blocks}
use Rattle.lw_wp.proofs.ChunkLemmas.{chunk_done}
use Rattle.lw_wp.proofs.walk.fill.Goals.{then-loop-index-test+else-cursor-count, else-loop-index-test}
use Rattle.lw_wp.proofs.walk.fill.Goals as goal

pub returns-clause-words : goal.returns-clause-words
returns-clause-words c =
    let p = c.args.parts.now in
    let done : (512 ≤ c.loop-index.index) ⊎ (length (blocks p) ≤ c.loop-index.cursor.place.front) =
    elim c.loop-index-test.branch [ then-loop-index-test+else-cursor-count w ↦ inr (omega (arith, w.if-cursor-count, c.front_count-count.ensures.count)) | else-loop-index-test w ↦ inl (omega (arith, w.loop-index-test)) ] in
    c.truncate.ensures.items ∙ (chunk_done p c.args.place c.loop-index.index c.loop-index.cursor c.loop-index.chunk.items c.loop-index.invariant done).0

pub returns-clause-rest : goal.returns-clause-rest
returns-clause-rest c =
    let p = c.args.parts.now in
    let done : (512 ≤ c.loop-index.index) ⊎ (length (blocks p) ≤ c.loop-index.cursor.place.front) =
    elim c.loop-index-test.branch [ then-loop-index-test+else-cursor-count w ↦ inr (omega (arith, w.if-cursor-count, c.front_count-count.ensures.count)) | else-loop-index-test w ↦ inl (omega (arith, w.loop-index-test)) ] in
    (chunk_done p c.args.place c.loop-index.index c.loop-index.cursor c.loop-index.chunk.items c.loop-index.invariant done).1
