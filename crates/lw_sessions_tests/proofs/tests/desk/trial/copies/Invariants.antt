use Rattle.std.proofs.Common.{◌≡◌, take}
use Rattle.lw_sessions_tests.proofs.tests.desk.trial.copies.Given as goal

abbrev pub invariant-loop-name : goal.invariant-loop-name
invariant-loop-name g l = l.v.items ≡ take l.name-index l.names
