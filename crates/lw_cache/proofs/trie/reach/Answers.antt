use Rattle.std.proofs.Common.{length}
use Rattle.lw_cache.specs.bodies.Trie.{node_at}
use Rattle.lw_cache.proofs.WalkLemmas.{down_more}
use Rattle.lw_cache.proofs.trie.reach.Goals as goal

pub loop-depth-preserved : goal.loop-depth-preserved
loop-depth-preserved c =
    down_more (node_at c.args.nodes.now) (length c.args.nodes.now) c.args.letters.now c.loop-depth.node c.loop-depth.depth c.child-next.result
    c.requires.trie c.loop-depth.invariant c.loop-depth-test.true c.child-next.ensures c.if-next-eq0.false
