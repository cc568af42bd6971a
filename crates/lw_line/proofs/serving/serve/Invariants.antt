use Rattle.std.proofs.Common.{◌≡◌, ◌<◌, ◌≤◌, length}
use Rattle.lw_line.specs.bodies.Playing.{Serves}
use Rattle.lw_line.proofs.serving.serve.Given as goal

abbrev pub invariant-loop-lines : goal.invariant-loop-lines
invariant-loop-lines g l =
    let I = g.I.Source in
    let O = g.O.Sink in
    record {
      serves : Serves l.m (I.state l.fn.source).left (I.state l.source).left l.inbox l.child l.lines (O.state l.fn.sink).taken (O.state l.sink).taken;
      state : l.child < length l.m.mealy.rows;
      source_quiet : (I.state l.source).faults ≡ (I.state l.fn.source).faults;
      sink_quiet : (O.state l.sink).faults ≡ (O.state l.fn.sink).faults;
      ends : (I.state l.fn.source).ends ≤ (I.state l.source).ends;
    }
