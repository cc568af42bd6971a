use Rattle.std.proofs.Common.{List, ℕ, ◌++◌, ◌∷◌, [], ap, ◌∙◌, sym}
use Rattle.lw_wp.proofs.MarkLemmas.{range_more}
use Rattle.lw_wp.proofs.greedy_sets.all_states.Goals as goal

pub loop-q-preserved : goal.loop-q-preserved
loop-q-preserved c = c.in_ok-push.ensures.items ∙ (ap (λ (l : List ℕ). l ++ c.loop-q.q ∷ []) c.loop-q.invariant ∙ sym (range_more c.loop-q.q))
