use Rattle.std.proofs.Common.{◌≡◌, ◌<◌, ℕ, [], length, map, get_or}
use Rattle.lw_wp.specs.Identification.{identification_of}
use Rattle.lw_wp.specs.bodies.Chosen.{Chooses}
use Rattle.lw_wp.proofs.identification_sets.wp_table.Given as goal

abbrev pub invariant-loop-q : goal.invariant-loop-q
invariant-loop-q l = record {
  long : length l.table.items ≡ l.q;
  single : (k : ℕ) → k < length (map (λ rows. map (λ row. row.items) rows.items) l.table.items) → length (get_or (map (λ rows. map (λ row. row.items) rows.items) l.table.items) k []) ≡ 1;
  each : (k : ℕ) → k < length (map (λ rows. map (λ row. row.items) rows.items) l.table.items) → Chooses l.by.words (get_or (get_or (map (λ rows. map (λ row. row.items) rows.items) l.table.items) k []) 0 []) (identification_of l.m.rows l.by.words k);
}
