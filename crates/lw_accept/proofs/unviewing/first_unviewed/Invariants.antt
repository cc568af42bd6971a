use Rattle.std.proofs.Common.{ℕ, ◌<◌}
use Rattle.lw_mealy.specs.Machine.{row}
use Rattle.lw_accept.specs.bodies.Unviewed.{IsRowViewed}
use Rattle.lw_accept.proofs.unviewing.first_unviewed.Given as goal

abbrev pub invariant-loop-state : goal.invariant-loop-state
invariant-loop-state l = (p : ℕ) → p < l.state → IsRowViewed p (row l.mealy.rows p)
