use Rattle.std.proofs.Common.{◌≤◌}
use Rattle.lw_cache.specs.bodies.Trie.{node_at}
use Rattle.lw_cache.specs.bodies.Scanning.{CountsLive}
use Rattle.lw_cache.proofs.scanning.count_live.Given as goal

abbrev pub invariant-loop-i : goal.invariant-loop-i
invariant-loop-i l = record {
  counts : CountsLive (node_at l.nodes) l.i l.count;
  few : l.count ≤ l.i;
}
