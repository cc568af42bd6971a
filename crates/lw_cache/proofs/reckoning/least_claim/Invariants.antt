use Rattle.std.proofs.Common.{length}
use Rattle.lw_cache.specs.bodies.Trie.{node_at}
use Rattle.lw_cache.proofs.ReckonLemmas.{IsLeastTo}
use Rattle.lw_cache.proofs.reckoning.least_claim.Given as goal

abbrev pub invariant-loop-cursor : goal.invariant-loop-cursor
invariant-loop-cursor l = IsLeastTo (node_at l.nodes) (length l.nodes) l.node l.cursor l.least

abbrev pub decreases-loop-cursor : goal.decreases-loop-cursor
decreases-loop-cursor l = l.cursor
