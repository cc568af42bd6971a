use Rattle.std.proofs.Common.{length}
use Rattle.lw_cache.specs.bodies.Trie.{node_at}
use Rattle.lw_cache.proofs.ReckonLemmas.{IsReckoned}
use Rattle.lw_cache.proofs.reckoning.reckon.Given as goal

abbrev pub invariant-loop-node : goal.invariant-loop-node
invariant-loop-node l = IsReckoned (node_at l.initial.nodes) (node_at l.nodes) (length l.initial.nodes) l.node

abbrev pub decreases-loop-node : goal.decreases-loop-node
decreases-loop-node l = l.node
