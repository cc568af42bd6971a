use Rattle.std.proofs.Common.{◌≡◌, ◌++◌, map, take, drop}
use Rattle.lw_mealy.specs.Renumbering.{renumbered_rows}
use Rattle.lw_mealy.proofs.mealy.renumber_rows.Given as goal

abbrev pub invariant-loop-row : goal.invariant-loop-row
invariant-loop-row l = map (λ r. r.items) l.rows ≡ renumbered_rows l.to (take l.row-index (map (λ r. r.items) l.fn.rows)) ++ drop l.row-index (map (λ r. r.items) l.fn.rows)
