use Rattle.std.proofs.Common.{◌≡◌, ◌<◌, ◌≤◌, ℕ, get_or}
use Rattle.lw_separate.proofs.separator_words.all_apart.Given as goal

abbrev pub invariant-loop-q : goal.invariant-loop-q
invariant-loop-q l = (k : ℕ) → l.p ≤ k → k < l.q → get_or l.classes k 0 ≡ k
