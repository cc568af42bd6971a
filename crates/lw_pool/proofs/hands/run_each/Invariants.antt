use Rattle.std.proofs.Common.{◌≡◌, ℕ, ◌<◌, ◌≤◌, length, get_or}
use Rattle.lw_pool.specs.bodies.Crew.{HasRun}
use Rattle.lw_pool.proofs.hands.run_each.Given as goal

abbrev pub invariant-loop-i : goal.invariant-loop-i
invariant-loop-i g l = record {
  len : length l.hands ≡ length l.fn.hands;
  run : (k : ℕ) (d : _) → k < l.i → HasRun (λ p. p.turnstile ≡ l.turnstile) (get_or l.fn.hands k d) (get_or l.hands k d);
  left : (k : ℕ) (d : _) → l.i ≤ k → k < length l.fn.hands → get_or l.hands k d ≡ get_or l.fn.hands k d;
}
