use Rattle.std.proofs.Common.{◌≡◌, ◌+◌, ◌++◌, replicate, vec_len, vec_capacity}
use Rattle.lw_table.specs.bodies.Rows.{no_cells}
use Rattle.lw_table.proofs.steps.add_empty.Given as goal

abbrev pub invariant-loop : goal.invariant-loop
invariant-loop l = record {
  items : l.rows.items ≡ l.initial.rows.items ++ replicate l.counter no_cells;
  len : vec_len l.rows ≡ vec_len l.initial.rows + l.counter;
  capacity : vec_capacity l.rows ≡ vec_capacity l.initial.rows;
}
