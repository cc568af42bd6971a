use Rattle.std.proofs.Common.{◌≡◌, ◌≤◌, [], get_or, take}
use Rattle.lw_wp.specs.GreedySuite.{separated_of}
use Rattle.lw_wp.proofs.greedy_sets.separated_count.Given as goal

abbrev pub invariant-loop-p : goal.invariant-loop-p
invariant-loop-p l = record {
  few : l.count ≤ l.p-index;
  counted : l.count ≡ separated_of l.m.rows l.q (take l.p-index l.left) (get_or l.by.words l.number []);
}
