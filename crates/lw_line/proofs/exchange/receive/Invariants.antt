use Rattle.std.proofs.Common.{◌≡◌, ◌≤◌, ◌-◌, length}
use Rattle.lw_line.specs.bodies.Pieces.{HasCome}
use Rattle.lw_line.proofs.exchange.receive.Given as goal

abbrev pub invariant-loop-line : goal.invariant-loop-line
invariant-loop-line g l =
    let L = g.L.Link in
    record {
      come : HasCome l.fn.inbox l.inbox (L.state l.fn.link).transcript (L.state l.link).transcript;
      faults : (L.state l.fn.link).faults ≤ (L.state l.link).faults;
      ends : (L.state l.fn.link).ends ≤ (L.state l.link).ends;
      number : (L.state l.link).number ≡ (L.state l.fn.link).number;
    }

abbrev pub decreases-loop-line : goal.decreases-loop-line
decreases-loop-line g l = 256 - length l.inbox
