use Rattle.std.proofs.Common.{◌≡◌, ◌++◌, map, take, drop, vec_capacity}
use Rattle.lw_words.specs.Renumbering.{renumbered}
use Rattle.lw_names.proofs.sorting.renumber_tables.Given as goal

abbrev pub invariant-loop-table : goal.invariant-loop-table
invariant-loop-table l = record {
  items : map (λ t. t.items) l.tables ≡ map (renumbered l.to) (take l.table-index (map (λ t. t.items) l.fn.tables)) ++ drop l.table-index (map (λ t. t.items) l.fn.tables);
  capacities : map (λ t. vec_capacity t) l.tables ≡ map (λ t. vec_capacity t) l.fn.tables;
}
