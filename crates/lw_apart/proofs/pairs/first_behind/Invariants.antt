use Rattle.std.specs.List.{All, AllWithin}
use Rattle.lw_words.specs.Word.{answers_of}
use Rattle.lw_chunks.specs.Middle.{words_of_length}
use Rattle.lw_apart.specs.Pairs.{along}
use Rattle.lw_apart.proofs.FirstLemmas.{Met}
use Rattle.lw_apart.proofs.pairs.first_behind.Given as goal

abbrev pub invariant-loop-number : goal.invariant-loop-number
invariant-loop-number l = AllWithin (λ w. All (Met l.h.rows (answers_of l.cache.kept)) (along l.fronts.longest l.access w)) (words_of_length l.fronts.inputs l.fronts.longest) 0 l.number
