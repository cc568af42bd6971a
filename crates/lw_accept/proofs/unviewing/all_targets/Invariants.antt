use Rattle.std.proofs.Common.{◌≡◌, map, take}
use Rattle.lw_accept.specs.bodies.Unviewed.{targets_of_row}
use Rattle.lw_accept.proofs.unviewing.all_targets.Given as goal

abbrev pub invariant-loop-state : goal.invariant-loop-state
invariant-loop-state l = map (λ r. r.items) l.all.items ≡ map targets_of_row (take l.state l.mealy.rows)
