use Rattle.std.proofs.Common.{◌≡◌, ◌<◌, ℕ, length, None, get_or}
use Rattle.lw_separate.specs.Canonical.{IsAccessWord}
use Rattle.lw_separate.proofs.access.access_words.Given as goal

abbrev pub invariant-loop-q : goal.invariant-loop-q
invariant-loop-q l = record {
  long : length l.words.items ≡ l.q;
  each : (k : ℕ) → k < length l.words.items → IsAccessWord l.m.inputs l.m.rows k (get_or l.words.items k None);
}
