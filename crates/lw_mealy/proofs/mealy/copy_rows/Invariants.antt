use Rattle.std.proofs.Common.{◌≡◌, map, take}
use Rattle.lw_mealy.proofs.mealy.copy_rows.Given as goal

abbrev pub invariant-loop-row : goal.invariant-loop-row
invariant-loop-row l = map (λ r. r.items) l.copies.items ≡ take l.row-index (map (λ r. r.items) l.rows)
