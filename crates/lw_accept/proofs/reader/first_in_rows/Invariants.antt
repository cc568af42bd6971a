use Rattle.std.proofs.Common.{map, length, ◌<◌}
use Rattle.std.specs.List.{All, AllWithin}
use Rattle.lw_accept.proofs.reader.first_in_rows.Given as goal

abbrev pub invariant-loop-state : goal.invariant-loop-state
invariant-loop-state l = AllWithin (λ r. All (λ t. t < length l.rows) r) (map (λ r. r.items) l.rows) 0 l.state
