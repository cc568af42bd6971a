use Rattle.std.proofs.Common.{◌≡◌, ◌<◌, ℕ, length, get_or}
use Rattle.lw_separate.proofs.canonical_form.all_states.Given as goal

abbrev pub invariant-loop-q : goal.invariant-loop-q
invariant-loop-q l = record {
  long : length l.states.items ≡ l.q;
  each : (k : ℕ) → k < length l.states.items → get_or l.states.items k 0 ≡ k;
}
