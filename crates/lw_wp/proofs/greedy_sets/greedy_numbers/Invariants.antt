use Rattle.std.proofs.Common.{◌≢◌, ◌<◌, length, All}
use Rattle.lw_wp.specs.GreedySuite.{states_of}
use Rattle.lw_wp.proofs.GreedyLemmas.{GoesOn}
use Rattle.lw_wp.proofs.greedy_sets.greedy_numbers.Given as goal

abbrev pub invariant-loop-alloc : goal.invariant-loop-alloc
invariant-loop-alloc l = record {
  so_far : GoesOn l.m.rows l.by.words l.q (states_of l.m.rows) l.left.items l.numbers.items;
  others : All (λ p. p ≢ l.q) l.left.items;
  below : All (λ p. p < length l.m.rows) l.left.items;
}

abbrev pub decreases-loop-alloc : goal.decreases-loop-alloc
decreases-loop-alloc l = length l.left.items
