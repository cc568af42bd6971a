use Rattle.std.proofs.Common.{List, ℕ, Some, None, length, refl, sym, ap, ◌∙◌, [], subst, arith}
use Rattle.lw_words.specs.Word.{answers_of}
use Rattle.lw_words.specs.First.{FailsFirst}
use Rattle.lw_cache.specs.Known.{IsKnown}
use Rattle.lw_certify.proofs.CertifyLemmas.{found_here, found_later, none_left, nothing_left, fewer, element_is}
use Rattle.lw_certify.proofs.missing.first_missing.Goals as goal

pub returns-in-Some : goal.returns-in-Some
returns-in-Some g c = c.loop-chunk.invariant (Some c.in_ok-copy.field-0) (found_here (answers_of c.args.cache.now.kept) 512 (g.S.Chunks.left c.loop-chunk.suite) c.next_chunk.new.chunk.items c.in-Some.place c.in_ok-copy.field-0 c.in_ok-next_chunk.ensures.chunk (subst (λ (xs : List (List ℕ)). FailsFirst (IsKnown (answers_of c.args.cache.now.kept)) xs c.in-Some.place) c.deref.ensures.value c.in-Some.ensures.some) (c.in_ok-copy.ensures ∙ sym (element_is c.next_chunk.new.chunk.items c.in-Some.place c.in-Some.place c.index.result.now [] refl (let w = c.in-Some.ensures.some.within in let l = c.deref.ensures.len in omega (arith, ap (λ (xs : List (List ℕ)). length xs) c.deref.ensures.value)) c.index.ensures)))

pub loop-chunk-smaller : goal.loop-chunk-smaller
loop-chunk-smaller g c = fewer 512 (g.S.Chunks.left c.loop-chunk.suite) (g.S.Chunks.left c.next_chunk.new.self) (omega arith) (c.in_ok-next_chunk.ensures.more.0 c.if-branch.true) c.in_ok-next_chunk.ensures.rest

pub loop-chunk-preserved : goal.loop-chunk-preserved
loop-chunk-preserved g c = λ found f. c.loop-chunk.invariant found (found_later (answers_of c.args.cache.now.kept) 512 (g.S.Chunks.left c.loop-chunk.suite) c.deref.result.now (g.S.Chunks.left c.next_chunk.new.self) found (c.deref.ensures.value ∙ c.in_ok-next_chunk.ensures.chunk) c.in_ok-next_chunk.ensures.rest c.in_default.ensures.none f)

pub returns : goal.returns
returns g c = c.loop-chunk.invariant None (none_left (answers_of c.args.cache.now.kept) (g.S.Chunks.left c.loop-chunk.suite) (nothing_left c.in_ok-next_chunk.field-0 (g.S.Chunks.left c.loop-chunk.suite) c.if-branch.false c.in_ok-next_chunk.ensures.more))
