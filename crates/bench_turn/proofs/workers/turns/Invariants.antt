use Rattle.std.proofs.Common.{◌≡◌, length}
use Rattle.bench_turn.proofs.workers.turns.Given as goal

abbrev pub invariant-loop : goal.invariant-loop
invariant-loop g l = record {
  ours : l.worker.pass.turnstile ≡ l.turnstile;
  opening : l.worker.pass.knows.opening ≡ l.fn.worker.pass.knows.opening;
  often : length l.worker.pass.knows.mine ≡ l.counter;
}
