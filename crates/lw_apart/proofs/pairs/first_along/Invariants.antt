use Rattle.std.proofs.Common.{length}
use Rattle.std.specs.List.{All, AllWithin, range_with_len}
use Rattle.lw_words.specs.Word.{answers_of}
use Rattle.lw_apart.specs.Pairs.{along_from}
use Rattle.lw_apart.proofs.FirstLemmas.{Met}
use Rattle.lw_apart.proofs.pairs.first_along.Given as goal

abbrev pub invariant-loop-fewer : goal.invariant-loop-fewer
invariant-loop-fewer l = AllWithin (λ i. All (Met l.h.rows (answers_of l.cache.kept)) (along_from (length l.letters) l.access l.letters i)) (range_with_len 1 (length l.letters)) 0 l.fewer
