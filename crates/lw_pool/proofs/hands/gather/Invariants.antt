use Rattle.std.proofs.Common.{◌≡◌, ℕ, ◌<◌, ◌≤◌, length, get_or, Some}
use Rattle.lw_turn.specs.Views.{ended_of, ended_view}
use Rattle.lw_pool.specs.declared.crew.Engaged.{Engaged}
use Rattle.lw_pool.proofs.hands.gather.Given as goal

abbrev pub invariant-loop-i : goal.invariant-loop-i
invariant-loop-i g l = record {
  len : length l.hands ≡ length l.fn.hands;
  workers : (k : ℕ) (d : _) → (get_or l.hands k d).worker ≡ (get_or l.fn.hands k d).worker;
  left : (k : ℕ) (d : _) → l.i ≤ k → k < length l.fn.hands → get_or l.hands k d ≡ get_or l.fn.hands k d;
  joined : (k : ℕ) (d : _) (e : Engaged) → 0 < k → k < l.i → (get_or l.fn.hands k d).engaged ≡ Some e → ended_of k l.whole.knows.ended ≡ Some (ended_view e.pass.knows);
  ours : l.whole.turnstile ≡ l.turnstile;
  number : l.whole.knows.number ≡ 0;
  opening : l.whole.knows.opening ≡ l.fn.first.knows.opening;
  made : l.whole.knows.made ≡ l.fn.first.knows.made;
  mine : l.whole.knows.mine ≡ l.fn.first.knows.mine;
  some : 0 < l.i;
}
