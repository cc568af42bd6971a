use Rattle.std.proofs.Common.{length, Some, None}
use Rattle.lw_pool.specs.Opening.{AllMayJoin}
use Rattle.lw_sessions_tests.proofs.tests.workers.crews.hired.Given as goal

abbrev pub invariant-loop : goal.invariant-loop
invariant-loop g l =
    AllMayJoin
    (λ s. record { session = s; seen = record { instance = s.instance; journal = s.journal; names = s.sul.table.names; most = length s.sul.table.names; stop = s.sul.stop; origin = record { machine = Some s.sul.table.machine.rows; link = None; letters = None }; inputs = s.sul.table.machine.inputs; outputs = s.sul.table.machine.outputs } })
    l.fn.shared 1 2 l.hired.items
