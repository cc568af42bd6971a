use Rattle.std.proofs.Common.{◌≡◌, length}
use Rattle.lw_turn.proofs.tests.calls.adds.Given as goal

abbrev pub invariant-loop : goal.invariant-loop
invariant-loop g l = record {
  ours : l.own.turnstile ≡ l.turnstile;
  number : l.own.knows.number ≡ l.fn.pass.knows.number;
  opening : l.own.knows.opening ≡ l.fn.pass.knows.opening;
  made : l.own.knows.made ≡ l.fn.pass.knows.made;
  ended : l.own.knows.ended ≡ l.fn.pass.knows.ended;
  often : length l.own.knows.mine ≡ l.counter;
}
