use Rattle.std.proofs.Common.{◌≡◌, ◌≤◌, take}
use Rattle.lw_mealy.specs.Machine.{row}
use Rattle.lw_accept.specs.bodies.Unviewed.{targets_of_row}
use Rattle.lw_accept.proofs.unviewing.targets_of.Given as goal

abbrev pub invariant-loop-letter : goal.invariant-loop-letter
invariant-loop-letter l = (1 ≤ l.letter) × (l.targets.items ≡ targets_of_row (take l.letter (row l.mealy.rows l.state)))
