use Rattle.std.proofs.Common.{map}
use Rattle.std.specs.List.{All, AllWithin}
use Rattle.lw_mealy.specs.CellHalf.{IsBelow}
use Rattle.lw_mealy.proofs.mealy.first_in_rows.Given as goal

abbrev pub invariant-loop-state : goal.invariant-loop-state
invariant-loop-state l = AllWithin (λ r. All (IsBelow l.half l.bound) r) (map (λ r. r.items) l.rows) 0 l.state
