use Rattle.std.proofs.Common.{◌≡◌, ℕ, ◌<◌}
use Rattle.lw_mealy.specs.Machine.{after}
use Rattle.lw_cache.specs.Cut.{word_at}
use Rattle.lw_base_tests.proofs.tests.cex.checked.lead.Given as goal

abbrev pub invariant-loop-q : goal.invariant-loop-q
invariant-loop-q g l = (k : ℕ) → k < l.q → after l.model.rows 0 (word_at l.access k) ≡ k
