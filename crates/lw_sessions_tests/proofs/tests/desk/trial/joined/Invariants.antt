use Rattle.std.proofs.Common.{◌≡◌, ◌++◌, take}
use Rattle.lw_sessions_tests.proofs.tests.desk.trial.joined.Given as goal

abbrev pub invariant-loop-i : goal.invariant-loop-i
invariant-loop-i g l = l.v.items ≡ l.own ++ take l.i l.names
