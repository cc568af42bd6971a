use Rattle.std.proofs.Common.{◌≡◌, ◌+◌, ◌++◌, replicate, vec_len, vec_capacity}
use Rattle.lw_tree.specs.Tree.{no_place}
use Rattle.lw_tree.proofs.steps.push_places.Given as goal

abbrev pub invariant-loop : goal.invariant-loop
invariant-loop l = record {
  items : l.places.items ≡ l.initial.places.items ++ replicate l.counter no_place;
  len : vec_len l.places ≡ vec_len l.initial.places + l.counter;
  capacity : vec_capacity l.places ≡ vec_capacity l.initial.places;
}
