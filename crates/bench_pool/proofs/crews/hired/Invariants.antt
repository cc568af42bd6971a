use Rattle.std.proofs.Common.{◌≡◌, length, Some, None}
use Rattle.lw_pool.specs.Opening.{AllMayJoin}
use Rattle.bench_pool.proofs.crews.hired.Given as goal

abbrev pub invariant-loop-instance : goal.invariant-loop-instance
invariant-loop-instance l = record {
  count : length l.sessions.items ≡ l.instance;
  join : AllMayJoin
      (λ s. record { session = s; seen = record { instance = s.instance; journal = s.journal; names = s.sul.table.names; most = length s.sul.table.names; stop = None; origin = record { machine = Some s.sul.table.machine.rows; link = None; letters = None }; inputs = s.sul.table.machine.inputs; outputs = s.sul.table.machine.outputs } })
      l.fn.shared 4 2 l.sessions.items;
}
