use Rattle.std.proofs.Common.{◌≡◌, ◌≤◌, ◌∷◌, [], ◌++◌, reverse, length, get_or}
use Rattle.lw_compare.specs.bodies.Walk.{words_of}
use Rattle.lw_compare.proofs.walk.word_to.Given as goal

abbrev pub invariant-loop-at : goal.invariant-loop-at
invariant-loop-at l = record {
  within : l.at ≤ length l.walk.steps.items;
  read : get_or (words_of l.walk.steps.items) l.at [] ++ reverse l.letters.items ≡ get_or (words_of l.walk.steps.items) l.place [] ++ l.last ∷ [];
}

abbrev pub decreases-loop-at : goal.decreases-loop-at
decreases-loop-at l = l.at
