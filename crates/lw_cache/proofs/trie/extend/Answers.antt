use Rattle.std.proofs.Common.{◌≡◌, ◌+◌, ℕ, length, get_or, subst, sym, ◌∙◌, arith}
use Rattle.lw_cache.specs.bodies.Trie.{node_at}
use Rattle.lw_cache.specs.bodies.Filling.{HasOneMore, IsExtended}
use Rattle.lw_cache.proofs.ExtendLemmas.{extend_more}
use Rattle.lw_cache.proofs.trie.extend.Goals as goal

pub loop-letter-preserved : goal.loop-letter-preserved
loop-letter-preserved c =
    let size : length c.loop-letter.nodes.items ≡ length c.args.nodes.now.items + c.loop-letter.letter-index = c.loop-letter.invariant.len in
    let one : HasOneMore (node_at c.loop-letter.nodes.items) (node_at c.append-node.new.nodes.items) (length c.args.nodes.now.items + c.loop-letter.letter-index) c.loop-letter.node (get_or c.args.letters.now c.loop-letter.letter-index 0) =
    subst (λ (m : ℕ). HasOneMore (node_at c.loop-letter.nodes.items) (node_at c.append-node.new.nodes.items) m c.loop-letter.node (get_or c.args.letters.now c.loop-letter.letter-index 0)) size c.append-node.ensures.nodes in
    record {
      nodes = subst (λ (r : ℕ). IsExtended (node_at c.args.nodes.now.items) (node_at c.append-node.new.nodes.items) (length c.args.nodes.now.items) c.args.parent c.args.letters.now (c.loop-letter.letter-index + 1) r)
          (sym (c.append-node.ensures.number ∙ size))
          (extend_more (node_at c.args.nodes.now.items) (node_at c.loop-letter.nodes.items) (node_at c.append-node.new.nodes.items) (length c.args.nodes.now.items) c.args.parent c.args.letters.now c.loop-letter.letter-index c.loop-letter.node c.loop-letter.invariant.nodes c.loop-letter-test.true one);
      len = omega (arith, c.append-node.ensures.one, size);
      vec = omega (arith, c.append-node.ensures.len, c.loop-letter.invariant.vec);
      capacity = c.append-node.ensures.capacity ∙ c.loop-letter.invariant.capacity;
    }
