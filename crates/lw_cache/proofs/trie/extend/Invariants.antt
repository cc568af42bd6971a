use Rattle.std.proofs.Common.{◌≡◌, ◌+◌, length, vec_len, vec_capacity}
use Rattle.lw_cache.specs.bodies.Trie.{node_at}
use Rattle.lw_cache.specs.bodies.Filling.{IsExtended}
use Rattle.lw_cache.proofs.trie.extend.Given as goal

abbrev pub invariant-loop-letter : goal.invariant-loop-letter
invariant-loop-letter l = record {
  nodes : IsExtended (node_at l.initial.nodes.items) (node_at l.nodes.items) (length l.initial.nodes.items) l.parent l.letters l.letter-index l.node;
  len : length l.nodes.items ≡ length l.initial.nodes.items + l.letter-index;
  vec : vec_len l.nodes ≡ vec_len l.initial.nodes + l.letter-index;
  capacity : vec_capacity l.nodes ≡ vec_capacity l.initial.nodes;
}
