use Rattle.std.proofs.Common.{◌≡◌, ◌+◌, ◌-◌, ◌++◌, length, take}
use Rattle.std.specs.List.{AllWithin, range_with_len}
use Rattle.lw_words.specs.Word.{answers_of}
use Rattle.lw_apart.proofs.FirstLemmas.{Met}
use Rattle.lw_apart.proofs.pairs.first_along_from.Given as goal

abbrev pub invariant-loop-more : goal.invariant-loop-more
invariant-loop-more l =
    (l.one ≡ l.access ++ take l.count l.letters)
    × AllWithin (λ j. Met l.h.rows (answers_of l.cache.kept) (l.access ++ take l.count l.letters, l.access ++ take j l.letters)) (range_with_len (l.count + 1) (length l.letters - l.count)) 0 l.more
