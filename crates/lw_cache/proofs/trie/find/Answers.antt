use Rattle.std.proofs.Common.{length}
use Rattle.lw_cache.specs.bodies.Trie.{node_at}
use Rattle.lw_cache.proofs.WalkLemmas.{reached_none}
use Rattle.lw_cache.proofs.trie.find.Goals as goal

pub returns-then-depth-letters : goal.returns-then-depth-letters
returns-then-depth-letters c =
    reached_none (node_at c.args.nodes.now) (length c.args.nodes.now) c.args.letters.now c.reach-node.result.0 c.reach-node.result.1 c.requires c.reach-node.ensures c.if-depth-letters.true
