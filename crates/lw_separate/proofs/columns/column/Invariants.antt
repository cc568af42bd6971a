use Rattle.std.proofs.Common.{◌≡◌, ◌<◌, ℕ, length, get_or}
use Rattle.lw_mealy.specs.Machine.{cell}
use Rattle.lw_separate.proofs.columns.column.Given as goal

abbrev pub invariant-loop-q : goal.invariant-loop-q
invariant-loop-q l = record {
  long : length l.cells.items ≡ l.q;
  cells : (q : ℕ) → q < length l.cells.items → get_or l.cells.items q (0, 0) ≡ cell l.m.rows q l.x;
}
