use Rattle.std.proofs.Common.{◌≡◌, ◌<◌, ℕ, [], length, map, get_or}
use Rattle.lw_separate.specs.bodies.Renaming.{RenamesRow}
use Rattle.lw_separate.proofs.rename.renamed_rows.Given as goal

abbrev pub invariant-loop-state : goal.invariant-loop-state
invariant-loop-state l = record {
  long : length l.rows.items ≡ l.state-index;
  each : (k : ℕ) → k < length (map (λ r. r.items) l.rows.items) → RenamesRow l.m.inputs l.m.rows l.names (get_or l.states k 0) (get_or (map (λ r. r.items) l.rows.items) k []);
}
