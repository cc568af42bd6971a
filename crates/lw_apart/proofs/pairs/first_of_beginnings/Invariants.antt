use Rattle.std.specs.List.{All, AllWithin, flat_map}
use Rattle.lw_words.specs.Word.{answers_of}
use Rattle.lw_chunks.specs.Middle.{words_of_length}
use Rattle.lw_apart.specs.Pairs.{along}
use Rattle.lw_apart.proofs.FirstLemmas.{Met}
use Rattle.lw_apart.proofs.pairs.first_of_beginnings.Given as goal

abbrev pub invariant-loop-access : goal.invariant-loop-access
invariant-loop-access l = AllWithin (λ u. All (Met l.h.rows (answers_of l.cache.kept)) (flat_map (along l.fronts.longest u) (words_of_length l.fronts.inputs l.fronts.longest))) l.fronts.access 0 l.access-index
