use Rattle.std.proofs.Common.{◌≡◌, ℕ, ◌<◌, ◌≤◌, [], length, get_or}
use Rattle.lw_pool.specs.Pool.{Seen}
use Rattle.lw_pool.specs.bodies.Engaged.{Working}
use Rattle.lw_pool.specs.bodies.Crew.{IsHired}
use Rattle.lw_pool.proofs.hands.hire.Given as goal

abbrev pub invariant-loop-i : goal.invariant-loop-i
invariant-loop-i g l = record {
  len : length l.hands ≡ length l.fn.hands;
  hired : (k : ℕ) (d : _) → k < l.i → 0 < k → IsHired (λ p. p.turnstile ≡ l.turnstile) l.fn.first.knows.opening k (get_or l.fn.hands k d) (get_or l.hands k d);
  left : (k : ℕ) (d : _) → l.i ≤ k → k < length l.fn.hands → get_or l.hands k d ≡ get_or l.fn.hands k d;
  zero : (d : _) → get_or l.hands 0 d ≡ get_or l.fn.hands 0 d;
  ours : l.pass.turnstile ≡ l.turnstile;
  number : l.pass.knows.number ≡ 0;
  opening : l.pass.knows.opening ≡ l.fn.first.knows.opening;
  made : l.pass.knows.made ≡ l.i;
  ended : l.pass.knows.ended ≡ [];
  begun : (start : Seen) → Working start start l.pass.knows l.reply;
  some : 0 < l.i;
  busy : l.busy ≤ l.i;
  most : l.i ≤ length l.fn.hands;
}
