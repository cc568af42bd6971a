use Rattle.std.proofs.Common.{length}
use Rattle.lw_cache.specs.bodies.Trie.{node_at}
use Rattle.lw_cache.proofs.WalkLemmas.{IsDown}
use Rattle.lw_cache.proofs.trie.reach.Given as goal

abbrev pub invariant-loop-depth : goal.invariant-loop-depth
invariant-loop-depth l = IsDown (node_at l.nodes) (length l.nodes) l.letters l.node l.depth
