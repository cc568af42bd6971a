use Rattle.std.proofs.Common.{◌≡◌, ◌<◌, ℕ, [], length, map, get_or}
use Rattle.lw_separate.specs.bodies.Columns.{IsColumn}
use Rattle.lw_separate.proofs.columns.columns.Given as goal

abbrev pub invariant-loop-x : goal.invariant-loop-x
invariant-loop-x l = record {
  long : length l.all.items ≡ l.x;
  each : (x : ℕ) → x < length (map (λ c. c.items) l.all.items) → IsColumn l.m.rows x (get_or (map (λ c. c.items) l.all.items) x []);
}
