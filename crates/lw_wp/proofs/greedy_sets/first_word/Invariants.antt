use Rattle.std.proofs.Common.{◌≡◌, [], get_or}
use Rattle.std.specs.List.{IsFirstMaxByKey}
use Rattle.lw_wp.specs.GreedySuite.{separated_of, states_of}
use Rattle.lw_wp.proofs.greedy_sets.first_word.Given as goal

abbrev pub invariant-loop-number : goal.invariant-loop-number
invariant-loop-number l = record {
  best : IsFirstMaxByKey (separated_of l.m.rows l.q (states_of l.m.rows)) l.by.words l.number l.first;
  most : l.most ≡ separated_of l.m.rows l.q (states_of l.m.rows) (get_or l.by.words l.first []);
}
