use Rattle.std.proofs.Common.{◌≡◌, [], false, map, replicate}
use Rattle.lw_sessions_tests.specs.TestTrial.{seat_by}
use Rattle.lw_sessions_tests.proofs.tests.desk.trial.Trial.new.Given as goal

abbrev pub invariant-loop : goal.invariant-loop
invariant-loop g l = map (λ x. seat_by x.held x.ended x.own.items) l.seats.items ≡ replicate l.counter (seat_by [] false l.own)
