use Rattle.std.proofs.Common.{◌<◌, length, IfSome}
use Rattle.lw_cache.specs.bodies.Trie.{node_at}
use Rattle.lw_cache.specs.bodies.Scanning.{AreStates, IsFirstTo}
use Rattle.lw_cache.specs.bodies.Upward.{word_of_some, AreLengths}
use Rattle.lw_cache.proofs.scanning.first_differing.Given as goal

abbrev pub invariant-loop-i : goal.invariant-loop-i
invariant-loop-i l = record {
  states : AreStates (node_at l.nodes) l.m.rows l.i l.states.items;
  lengths : AreLengths (node_at l.nodes) l.i l.lengths.items;
  within : IfSome l.best (λ b. b < l.i);
  best : IsFirstTo (node_at l.nodes) (length l.nodes) l.m.rows l.i (word_of_some (node_at l.nodes) l.best);
}
