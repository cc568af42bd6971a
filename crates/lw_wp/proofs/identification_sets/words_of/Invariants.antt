use Rattle.std.proofs.Common.{◌≡◌, take}
use Rattle.lw_wp.specs.Tables.{chosen}
use Rattle.lw_wp.proofs.identification_sets.words_of.Given as goal

abbrev pub invariant-loop-number : goal.invariant-loop-number
invariant-loop-number l = l.copies ≡ chosen l.words (take l.number-index l.numbers)
