use Rattle.std.specs.List.{AllWithin}
use Rattle.lw_words.specs.Word.{answers_of}
use Rattle.lw_cache.specs.Known.{IsKnown}
use Rattle.lw_certify.proofs.missing.first_unknown.Given as goal

abbrev pub invariant-loop-place : goal.invariant-loop-place
invariant-loop-place l = AllWithin (IsKnown (answers_of l.cache.kept)) l.words 0 l.place
