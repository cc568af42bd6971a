use Rattle.std.proofs.Common.{◌≡◌, map, take}
use Rattle.lw_accept.specs.View.{viewed}
use Rattle.lw_accept.proofs.viewing.view_rows.Given as goal

abbrev pub invariant-loop-state : goal.invariant-loop-state
invariant-loop-state l = map (λ r. r.items) l.rows.items ≡ take l.state (viewed l.acceptor.automaton)
