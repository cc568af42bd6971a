use Rattle.std.proofs.Common.{length}
use Rattle.lw_cache.specs.bodies.Trie.{node_at}
use Rattle.lw_cache.proofs.ReckonLemmas.{least_more}
use Rattle.lw_cache.proofs.reckoning.least_claim.Goals as goal

pub loop-cursor-preserved : goal.loop-cursor-preserved
loop-cursor-preserved c =
    (least_more (node_at c.args.nodes.now) (length c.args.nodes.now) c.args.node c.loop-cursor.cursor c.loop-cursor.least c.min-least.result
    c.requires.trie c.loop-cursor.invariant c.loop-cursor-test.true c.min-least.ensures).0
