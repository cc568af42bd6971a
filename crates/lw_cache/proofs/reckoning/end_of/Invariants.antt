use Rattle.std.proofs.Common.{◌≢◌, ℕ, ◌<◌}
use Rattle.lw_cache.specs.bodies.Trie.{held_at}
use Rattle.lw_cache.proofs.reckoning.end_of.Given as goal

abbrev pub invariant-loop-claim : goal.invariant-loop-claim
invariant-loop-claim l = (k : ℕ) → k < l.claim-index → (held_at l.held k).number ≢ l.number
