use Rattle.std.specs.List.{AllWithin}
use Rattle.lw_words.specs.Word.{answers_of}
use Rattle.lw_apart.proofs.FirstLemmas.{Met}
use Rattle.lw_apart.proofs.pairs.first_with_access.Given as goal

abbrev pub invariant-loop-one : goal.invariant-loop-one
invariant-loop-one l = AllWithin (λ u. Met l.h.rows (answers_of l.cache.kept) (u, l.word)) l.access 0 l.one-index
