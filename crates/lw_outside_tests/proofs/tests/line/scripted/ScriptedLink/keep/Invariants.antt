use Rattle.std.proofs.Common.{◌≡◌}
use Rattle.lw_outside_tests.proofs.tests.line.scripted.ScriptedLink.keep.Given as goal

abbrev pub invariant-loop-b : goal.invariant-loop-b
invariant-loop-b l = (l.self.faults ≡ l.fn.self.faults) × (l.self.ends ≡ l.fn.self.ends)
