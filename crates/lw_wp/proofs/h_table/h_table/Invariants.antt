use Rattle.std.proofs.Common.{◌≡◌, ◌<◌, ℕ, [], length, map, get_or}
use Rattle.lw_wp.specs.GreedySuite.{AreGreedyRows}
use Rattle.lw_wp.proofs.h_table.h_table.Given as goal

abbrev pub invariant-loop-q : goal.invariant-loop-q
invariant-loop-q l = record {
  long : length l.table.items ≡ l.q;
  each : (k : ℕ) → k < length (map (λ rows. map (λ row. row.items) rows.items) l.table.items)
      → AreGreedyRows l.m.inputs l.m.rows l.extra l.by.words (map (λ numbers. numbers.items) l.own.items) k (get_or (map (λ rows. map (λ row. row.items) rows.items) l.table.items) k []);
}
