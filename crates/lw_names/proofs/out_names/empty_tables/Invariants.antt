use Rattle.std.proofs.Common.{◌≡◌, ◌≤◌, [], map, replicate, vec_capacity}
use Rattle.std.specs.List.{All}
use Rattle.lw_names.proofs.out_names.empty_tables.Given as goal

abbrev pub invariant-loop : goal.invariant-loop
invariant-loop l = record {
  empty : map (λ t. t.items) l.tables.items ≡ replicate l.counter [];
  rooms : All (λ n. 256 ≤ n) (map (λ t. vec_capacity t) l.tables.items);
}
