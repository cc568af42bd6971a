use Rattle.std.proofs.Common.{◌≡◌, ◌≢◌, ◌<◌, ◌≤◌, ℕ, get_or}
use Rattle.lw_separate.proofs.classes.least_alike.Given as goal

abbrev pub invariant-loop-p : goal.invariant-loop-p
invariant-loop-p l = (r : ℕ) → l.first ≤ r → r < l.p → get_or l.classes r 0 ≡ get_or l.classes l.q 0 → get_or l.outputs r 0 ≢ get_or l.outputs l.q 0
