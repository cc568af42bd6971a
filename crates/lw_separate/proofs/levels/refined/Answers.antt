use Rattle.std.proofs.Common.{rules, ◌<◌, ℕ, List, length, get_or, subst, sym}
use Rattle.lw_separate.specs.bodies.Levels.{IsLeastTogether}
use Rattle.lw_separate.proofs.AccessLemmas.{pushed}
use Rattle.lw_separate.proofs.levels.refined.Goals as goal

pub loop-q-preserved : goal.loop-q-preserved
loop-q-preserved c =
    let h = c.loop-q.invariant in
    let here : IsLeastTogether c.args.m.now.inputs c.args.m.now.rows c.args.classes.now (length c.loop-q.finer.items) c.least_together.result = subst (λ (k : ℕ). IsLeastTogether c.args.m.now.inputs c.args.m.now.rows c.args.classes.now k c.least_together.result) (sym h.long) c.least_together.ensures in
    record {
      long = search rules;
      each = subst (λ (l : List ℕ). (k : ℕ) → k < length l → IsLeastTogether c.args.m.now.inputs c.args.m.now.rows c.args.classes.now k (get_or l k 0)) (sym c.in_ok-push.ensures.items) (pushed (λ k p. IsLeastTogether c.args.m.now.inputs c.args.m.now.rows c.args.classes.now k p) c.loop-q.finer.items c.least_together.result 0 h.each here);
    }
