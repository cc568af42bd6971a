use Rattle.std.proofs.Common.{length}
use Rattle.lw_cache.specs.bodies.Trie.{node_at}
use Rattle.lw_cache.proofs.OrderLemmas.{IsComparedTo}
use Rattle.lw_cache.proofs.upward.compare_same_length.Given as goal

abbrev pub invariant-loop-left : goal.invariant-loop-left
invariant-loop-left l = IsComparedTo (node_at l.nodes) (length l.nodes) l.one l.other l.left l.right l.order

abbrev pub decreases-loop-left : goal.decreases-loop-left
decreases-loop-left l = l.left
