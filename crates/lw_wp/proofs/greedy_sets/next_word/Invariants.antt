use Rattle.std.proofs.Common.{◌≡◌, [], get_or}
use Rattle.std.specs.List.{IsFirstMaxByKey}
use Rattle.lw_wp.specs.GreedySuite.{separated_of}
use Rattle.lw_wp.proofs.greedy_sets.next_word.Given as goal

abbrev pub invariant-loop-number : goal.invariant-loop-number
invariant-loop-number l = record {
  best : IsFirstMaxByKey (separated_of l.m.rows l.q l.left) l.by.words l.number l.best;
  most : l.most ≡ separated_of l.m.rows l.q l.left (get_or l.by.words l.best []);
}
