use Rattle.std.proofs.Common.{◌≡◌, length}
use Rattle.lw_turn.proofs.tests.calls.Worker.work.Given as goal

abbrev pub invariant-loop : goal.invariant-loop
invariant-loop g l = record {
  ours : l.self.pass.turnstile ≡ l.turnstile;
  opening : l.self.pass.knows.opening ≡ l.fn.self.pass.knows.opening;
  often : length l.self.pass.knows.mine ≡ l.counter;
}
