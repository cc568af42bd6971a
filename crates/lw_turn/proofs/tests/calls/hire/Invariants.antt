use Rattle.std.proofs.Common.{◌≡◌, ◌+◌, ◌≤◌, []}
use Rattle.std.specs.Prelude.{All}
use Rattle.lw_turn.proofs.tests.calls.hire.Given as goal

abbrev pub invariant-loop : goal.invariant-loop
invariant-loop g l = record {
  ours : l.first.turnstile ≡ l.turnstile;
  number : l.first.knows.number ≡ 0;
  made : l.first.knows.made ≡ l.counter + 1;
  opening : l.first.knows.opening ≡ l.fn.first.knows.opening;
  mine : l.first.knows.mine ≡ l.fn.first.knows.mine;
  all_ours : All (λ w. w.pass.turnstile ≡ l.turnstile) l.workers.items;
  fresh : All (λ w. w.pass.knows.mine ≡ []) l.workers.items;
  often : All (λ w. l.each ≤ w.pass.knows.opening.each) l.workers.items;
}
