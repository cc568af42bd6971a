use Rattle.std.proofs.Common.{arith, ◌<◌, ℕ, List, [], Option, length, get_or, ap, sym, subst}
use Rattle.lw_separate.specs.Canonical.{IsAccessWord, IsLeastAccess}
use Rattle.lw_separate.proofs.AccessLemmas.{pushed}
use Rattle.lw_separate.proofs.SearchLemmas.{length-push}
use Rattle.lw_separate.proofs.access.least_access.Goals as goal

pub loop-q-preserved : goal.loop-q-preserved
loop-q-preserved c =
    let h = c.loop-q.invariant in
    let new : IsLeastAccess c.args.m.now.inputs c.args.m.now.rows c.loop-q.q c.in-Some.word = subst (λ (o : Option (List ℕ)). IsAccessWord c.args.m.now.inputs c.args.m.now.rows c.loop-q.q o) c.in-Some.is c.in_ok-found.ensures in
    let here : IsLeastAccess c.args.m.now.inputs c.args.m.now.rows (length c.loop-q.words) c.in-Some.word = subst (λ (k : ℕ). IsLeastAccess c.args.m.now.inputs c.args.m.now.rows k c.in-Some.word) (sym h.long) new in
    record {
      long = omega (arith, ap length c.in_ok-push.ensures.ok, length-push c.loop-q.words c.in-Some.word, h.long);
      each = subst (λ (l : List (List ℕ)). (k : ℕ) → k < length l → IsLeastAccess c.args.m.now.inputs c.args.m.now.rows k (get_or l k [])) (sym c.in_ok-push.ensures.ok) (pushed (λ k w. IsLeastAccess c.args.m.now.inputs c.args.m.now.rows k w) c.loop-q.words c.in-Some.word [] h.each here);
    }
