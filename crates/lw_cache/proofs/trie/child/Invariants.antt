use Rattle.std.proofs.Common.{length}
use Rattle.lw_cache.specs.bodies.Trie.{node_at}
use Rattle.lw_cache.proofs.WalkLemmas.{IsPassing}
use Rattle.lw_cache.proofs.trie.child.Given as goal

abbrev pub invariant-loop-cursor : goal.invariant-loop-cursor
invariant-loop-cursor l = IsPassing (node_at l.nodes) (length l.nodes) l.parent l.letter l.cursor

abbrev pub decreases-loop-cursor : goal.decreases-loop-cursor
decreases-loop-cursor l = l.cursor
