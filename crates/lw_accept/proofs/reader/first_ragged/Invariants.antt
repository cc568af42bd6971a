use Rattle.std.proofs.Common.{◌≡◌, map, length}
use Rattle.std.specs.List.{AllWithin}
use Rattle.lw_accept.proofs.reader.first_ragged.Given as goal

abbrev pub invariant-loop-state : goal.invariant-loop-state
invariant-loop-state l = AllWithin (λ r. length r ≡ l.inputs) (map (λ r. r.items) l.rows) 0 l.state
