use Rattle.std.proofs.Common.{length}
use Rattle.lw_cache.specs.bodies.Trie.{node_at, word_of}
use Rattle.lw_cache.specs.bodies.Filling.{ComparedTo}
use Rattle.lw_cache.proofs.UpLemmas.{IsUp}
use Rattle.lw_cache.proofs.filling.compare.Given as goal

abbrev pub invariant-loop-depth : goal.invariant-loop-depth
invariant-loop-depth l = record {
  up : IsUp (node_at l.nodes) (length l.nodes) (word_of (node_at l.nodes) l.end) l.node l.depth;
  found : ComparedTo (node_at l.nodes) (length l.nodes) (word_of (node_at l.nodes) l.end) l.outs l.depth l.found;
}

abbrev pub decreases-loop-depth : goal.decreases-loop-depth
decreases-loop-depth l = l.depth
