use Rattle.std.proofs.Common.{◌≡◌, ℕ, ◌<◌, ◌≤◌}
use Rattle.std.specs.Prelude.{All, IsSome}
use Rattle.lw_turn.specs.Views.{ended_of}
use Rattle.lw_turn.proofs.tests.calls.gather.Given as goal

abbrev pub invariant-loop-left : goal.invariant-loop-left
invariant-loop-left g l = record {
  ours : l.whole.turnstile ≡ l.turnstile;
  number : l.whole.knows.number ≡ 0;
  made : l.whole.knows.made ≡ 8;
  all_ours : All (λ w. w.pass.turnstile ≡ l.turnstile) l.workers.items;
  some : 0 < l.left;
  joined : (n : ℕ) → l.left ≤ n → n < 8 → IsSome (ended_of n l.whole.knows.ended);
}

abbrev pub decreases-loop-left : goal.decreases-loop-left
decreases-loop-left g l = l.left
