use Rattle.std.specs.List.{AllWithin}
use Rattle.lw_words.specs.Word.{answers_of}
use Rattle.lw_apart.proofs.BehindLemmas.{PartsAt}
use Rattle.lw_apart.proofs.apart.known_apart.Given as goal

abbrev pub invariant-loop-number : goal.invariant-loop-number
invariant-loop-number l = AllWithin (λ i. ¬ PartsAt l.h (answers_of l.cache.kept) l.one l.other i) l.behind 0 l.number-index
