use Rattle.std.proofs.Common.{◌≡◌, ◌≤◌, ◌-◌, length}
use Rattle.lw_line.specs.bodies.Playing.{HasRead}
use Rattle.lw_line.proofs.serving.next_line.Given as goal

abbrev pub invariant-loop-line : goal.invariant-loop-line
invariant-loop-line g l =
    let I = g.I.Source in
    record {
      read : HasRead l.fn.inbox l.inbox (I.state l.fn.source).left (I.state l.source).left;
      quiet : (I.state l.source).faults ≡ (I.state l.fn.source).faults;
      ends : (I.state l.fn.source).ends ≤ (I.state l.source).ends;
    }

abbrev pub decreases-loop-line : goal.decreases-loop-line
decreases-loop-line g l = 256 - length l.inbox
