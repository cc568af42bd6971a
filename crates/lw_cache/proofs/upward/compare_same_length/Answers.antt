use Rattle.std.proofs.Common.{length, ap, ◌∙◌}
use Rattle.std.specs.Ordering.{ordering_then}
use Rattle.std.specs.declared.cmp.Ordering.{Ordering}
use Rattle.lw_cache.specs.bodies.Trie.{node_at}
use Rattle.lw_cache.proofs.OrderLemmas.{compared_more, compared_end}
use Rattle.lw_cache.proofs.upward.compare_same_length.Goals as goal

pub loop-left-preserved : goal.loop-left-preserved
loop-left-preserved c =
    compared_more (node_at c.args.nodes.now) (length c.args.nodes.now) c.args.one c.args.other c.loop-left.left c.loop-left.right c.loop-left.order c.requires.trie c.loop-left.invariant c.loop-left-test.true
    c.then-order.result (c.then-order.ensures ∙ ap (λ (o : Ordering). ordering_then o c.loop-left.order) c.cmp.ensures)

pub returns : goal.returns
returns c =
    compared_end (node_at c.args.nodes.now) (length c.args.nodes.now) c.args.one c.args.other c.loop-left.left c.loop-left.right c.loop-left.order c.loop-left.invariant c.loop-left-test.false c.requires.same_length
