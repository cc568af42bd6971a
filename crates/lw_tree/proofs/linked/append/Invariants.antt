use Rattle.std.proofs.Common.{◌≡◌, ◌++◌, ◌+◌, length, vec_len, vec_capacity}
use Rattle.std.specs.Vec.Iter.{into_iter_items}
use Rattle.lw_tree.proofs.linked.append.Given as goal

abbrev pub invariant-loop-node : goal.invariant-loop-node
invariant-loop-node l = record {
  can : (goal.iterator-loop-node).can_next l.node-iterator;
  ends : (goal.iterator-loop-node).is_finite l.node-iterator;
  rest : l.fn.more.items ≡ l.yielded ++ into_iter_items l.node-iterator;
  items : l.nodes.items ≡ l.fn.nodes.items ++ l.yielded;
  len : vec_len l.nodes ≡ vec_len l.fn.nodes + length l.yielded;
  capacity : vec_capacity l.nodes ≡ vec_capacity l.fn.nodes;
}
