use Rattle.std.proofs.Common.{◌≡◌, ◌<◌, ℕ, [], length, get_or}
use Rattle.lw_separate.specs.Canonical.{IsLeastAccess}
use Rattle.lw_separate.proofs.access.least_access.Given as goal

abbrev pub invariant-loop-q : goal.invariant-loop-q
invariant-loop-q l = record {
  long : length l.words ≡ l.q;
  each : (k : ℕ) → k < length l.words → IsLeastAccess l.m.inputs l.m.rows k (get_or l.words k []);
}
