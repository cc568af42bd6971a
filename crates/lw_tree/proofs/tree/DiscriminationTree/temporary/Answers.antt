use Rattle.std.proofs.Common.{rules, ◌+◌, ◌^◌, ◌<◌, length, sym, ◌∙◌, arith}
use Rattle.lw_tree.proofs.FieldLemmas.{few_temporaries, one_more_temporary}
use Rattle.lw_tree.proofs.tree.DiscriminationTree.temporary.Goals as goal

pub overflow_add-count : goal.overflow_add-count
overflow_add-count c =
    let l = c.loop-node in
    let nodes = c.as_slice-node-items.result.now in
    let more = one_more_temporary nodes l.node-index l.count c.node-item.result c.loop-node-test.true c.node-item.is (sym c.is_temporary.ensures ∙ c.if-is_temporary.true) l.invariant in
    let few = few_temporaries nodes in
    let all : length nodes < 2 ^ 32 = search (rules, c.self.invariant.tree.few_nodes, c.as_slice-node-items.ensures) in
    let fits : l.count + 1 < 2 ^ 32 = omega (arith, more, few, all) in
    search (rules, fits)
