use Rattle.std.proofs.Common.{◌<◌, length, arith}
use Rattle.lw_cache.specs.bodies.Trie.{node_at, word_of}
use Rattle.lw_cache.proofs.UpLemmas.{mark_up, mark_told, mark_here, node_set_same, node_set_other}
use Rattle.lw_cache.proofs.filling.mark.Goals as goal

pub loop-depth-preserved-then-here : goal.loop-depth-preserved-then-here
loop-depth-preserved-then-here c =
    let within : c.loop-depth.node < length c.loop-depth.nodes = omega (arith, c.loop-depth.invariant.up.within) in
    record {
      up = mark_up (node_at c.args.nodes.now) (length c.args.nodes.now) c.requires.trie (word_of (node_at c.args.nodes.now) c.args.end) c.args.outs.now c.args.answer c.loop-depth.node c.loop-depth.depth c.loop-depth.invariant.up c.loop-depth-test.true
          c.requires.answer (node_at c.loop-depth.nodes) c.loop-depth.invariant.marked;
      marked = mark_here (node_at c.args.nodes.now) (length c.args.nodes.now) c.requires.trie (word_of (node_at c.args.nodes.now) c.args.end) c.args.outs.now c.args.answer c.loop-depth.node c.loop-depth.depth c.loop-depth.invariant.up c.loop-depth-test.true
          c.requires.answer (node_at c.loop-depth.nodes) _ c.loop-depth.invariant.marked c.if-here.true (node_set_same c.loop-depth.nodes c.loop-depth.node _ within) (λ i other. node_set_other c.loop-depth.nodes c.loop-depth.node i _ other);
    }

pub loop-depth-preserved : goal.loop-depth-preserved
loop-depth-preserved c = record {
  up = mark_up (node_at c.args.nodes.now) (length c.args.nodes.now) c.requires.trie (word_of (node_at c.args.nodes.now) c.args.end) c.args.outs.now c.args.answer c.loop-depth.node c.loop-depth.depth c.loop-depth.invariant.up c.loop-depth-test.true
      c.requires.answer (node_at c.loop-depth.nodes) c.loop-depth.invariant.marked;
  marked = mark_told (node_at c.args.nodes.now) (length c.args.nodes.now) c.requires.trie (word_of (node_at c.args.nodes.now) c.args.end) c.args.outs.now c.args.answer c.loop-depth.node c.loop-depth.depth c.loop-depth.invariant.up c.loop-depth-test.true
      c.requires.answer (node_at c.loop-depth.nodes) c.loop-depth.invariant.marked c.if-here.false;
}
