use Rattle.std.proofs.Common.{◌≡◌, ◌≤◌, ◌++◌, ◌-◌, length, take, option_map}
use Rattle.lw_outside.proofs.streams.put_all.Given as goal

abbrev pub invariant-loop-done : goal.invariant-loop-done
invariant-loop-done g l =
    let K = g.K.Sink in
    record {
      quiet : (K.state l.sink).faults ≡ (K.state l.fn.sink).faults;
      within : l.done ≤ length l.bytes;
      took : (K.state l.sink).taken ≡ option_map (λ t. t ++ take l.done l.bytes) (K.state l.fn.sink).taken;
    }

abbrev pub decreases-loop-done : goal.decreases-loop-done
decreases-loop-done g l = length l.bytes - l.done
