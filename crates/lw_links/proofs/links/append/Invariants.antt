use Rattle.std.proofs.Common.{◌≡◌, ◌+◌, ◌≤◌, ◌++◌, replicate, vec_len}
use Rattle.std.specs.Vec.{vec_capacity}
use Rattle.lw_links.proofs.links.append.Given as goal

abbrev pub invariant-loop : goal.invariant-loop
invariant-loop g l = record {
  items : l.items.items ≡ l.initial.items.items ++ replicate l.counter l.value;
  len : vec_len l.items ≡ vec_len l.initial.items + l.counter;
  room : vec_len l.initial.items + l.count ≤ vec_capacity l.items;
}
