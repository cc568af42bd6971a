use Rattle.std.proofs.Common.{List, ℕ, Option, length}
use Rattle.lw_words.specs.Word.{answers_of}
use Rattle.lw_certify.specs.bodies.Stages.{IsFirstUnknown}
use Rattle.lw_certify.proofs.missing.first_missing.Given as goal

-- what is first unknown of what is left is so of the whole
abbrev pub invariant-loop-chunk : goal.invariant-loop-chunk
invariant-loop-chunk g l = (found : Option (List ℕ)) → IsFirstUnknown (answers_of l.cache.kept) (g.S.Chunks.left l.suite) found → IsFirstUnknown (answers_of l.cache.kept) (g.S.Chunks.left l.initial.suite) found

abbrev pub decreases-loop-chunk : goal.decreases-loop-chunk
decreases-loop-chunk g l = length (g.S.Chunks.left l.suite)
