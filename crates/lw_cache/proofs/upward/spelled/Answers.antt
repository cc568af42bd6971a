use Rattle.std.proofs.Common.{◌<◌, length, arith}
use Rattle.lw_cache.specs.bodies.Trie.{node_at, word_of}
use Rattle.lw_cache.proofs.OrderLemmas.{spell_more}
use Rattle.lw_cache.proofs.upward.spelled.Goals as goal

pub loop-node-preserved : goal.loop-node-preserved
loop-node-preserved c =
    let up : (node_at c.args.nodes.now c.loop-node.node).parent < c.loop-node.node = c.requires.trie.up c.loop-node.node (omega (arith, c.loop-node-test.true)) c.loop-node.invariant.within in
    record {
      within = omega (arith, up, c.loop-node.invariant.within);
      word = spell_more (node_at c.args.nodes.now) (length c.args.nodes.now) c.loop-node.node c.loop-node.letters.items c.push.new.self.items (word_of (node_at c.args.nodes.now) c.args.end) c.requires.trie c.loop-node.invariant.within c.loop-node-test.true c.in_ok-push.ensures.items c.loop-node.invariant.word;
    }
