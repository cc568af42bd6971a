use Rattle.std.proofs.Common.{◌≡◌, ◌<◌, ℕ, length, get_or}
use Rattle.lw_separate.specs.bodies.Levels.{IsLeastTogether}
use Rattle.lw_separate.proofs.levels.refined.Given as goal

abbrev pub invariant-loop-q : goal.invariant-loop-q
invariant-loop-q l = record {
  long : length l.finer.items ≡ l.q;
  each : (k : ℕ) → k < length l.finer.items → IsLeastTogether l.m.inputs l.m.rows l.classes k (get_or l.finer.items k 0);
}
