use Rattle.std.proofs.Common.{length}
use Rattle.lw_cache.specs.bodies.Trie.{node_at, word_of}
use Rattle.lw_cache.proofs.UpLemmas.{up_more, compare_same, compare_other}
use Rattle.lw_cache.proofs.filling.compare.Goals.{else-here-via-then-here+else-here-outs, else-here-via-else-here}
use Rattle.lw_cache.proofs.filling.compare.Goals as goal

pub loop-depth-preserved-then-here-outs : goal.loop-depth-preserved-then-here-outs
loop-depth-preserved-then-here-outs c = record {
  up = up_more (node_at c.args.nodes.now) (length c.args.nodes.now) c.requires.trie (word_of (node_at c.args.nodes.now) c.args.end) c.loop-depth.node c.loop-depth.depth c.loop-depth.invariant.up c.loop-depth-test.true;
  found = compare_other (node_at c.args.nodes.now) (length c.args.nodes.now) c.requires.trie (word_of (node_at c.args.nodes.now) c.args.end) c.loop-depth.node c.loop-depth.depth c.loop-depth.invariant.up c.loop-depth-test.true
      c.args.outs.now c.if-here.true c.if-here-outs.true;
}

pub loop-depth-preserved : goal.loop-depth-preserved
loop-depth-preserved c = record {
  up = up_more (node_at c.args.nodes.now) (length c.args.nodes.now) c.requires.trie (word_of (node_at c.args.nodes.now) c.args.end) c.loop-depth.node c.loop-depth.depth c.loop-depth.invariant.up c.loop-depth-test.true;
  found = compare_same (node_at c.args.nodes.now) (length c.args.nodes.now) c.requires.trie (word_of (node_at c.args.nodes.now) c.args.end) c.loop-depth.node c.loop-depth.depth c.loop-depth.invariant.up c.loop-depth-test.true
      c.args.outs.now c.loop-depth.found
      (elim c.else-here.branch [
        | else-here-via-then-here+else-here-outs w ↦ λ told. w.if-here-outs.false
        | else-here-via-else-here w ↦ λ told. absurd (told w.if-here.false)
      ])
      c.loop-depth.invariant.found;
}
