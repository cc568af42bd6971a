use Rattle.std.proofs.Common.{◌≡◌, take}
use Rattle.lw_sessions_tests.proofs.tests.desk.trial.Trial.declared.Given as goal

abbrev pub invariant-loop-n : goal.invariant-loop-n
invariant-loop-n g l = l.own.items ≡ take l.n l.shared.names
