use Rattle.std.proofs.Common.{ℕ, ◌<◌}
use Rattle.lw_mealy.specs.Machine.{cell}
use Rattle.lw_accept.specs.View.{MayView}
use Rattle.lw_accept.proofs.unviewing.first_in_row.Given as goal

abbrev pub invariant-loop-letter : goal.invariant-loop-letter
invariant-loop-letter l = (y : ℕ) → y < l.letter → MayView l.state y (cell l.mealy.rows l.state y)
