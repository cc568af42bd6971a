use Rattle.std.proofs.Common.{◌≡◌, ◌<◌, ℕ, length, get_or, Some, None}
use Rattle.lw_separate.proofs.canonical_form.numbers.Given as goal

abbrev pub invariant-loop-place : goal.invariant-loop-place
invariant-loop-place l = record {
  long : length l.names.items ≡ l.place-index;
  each : (q k : ℕ) → q < length l.names.items → get_or l.places q None ≡ Some k → get_or l.names.items q 0 ≡ k;
}
