use Rattle.std.proofs.Common.{◌≡◌, ◌<◌, ℕ, [], length, map, get_or}
use Rattle.lw_wp.specs.GreedySuite.{IsGreedy, states_of}
use Rattle.lw_wp.proofs.greedy_sets.greedy_sets.Given as goal

abbrev pub invariant-loop-q : goal.invariant-loop-q
invariant-loop-q l = record {
  long : length l.own.items ≡ l.q;
  each : (k : ℕ) → k < length (map (λ v. v.items) l.own.items) → IsGreedy l.m.rows l.by.words k (states_of l.m.rows) (get_or (map (λ v. v.items) l.own.items) k []);
}
