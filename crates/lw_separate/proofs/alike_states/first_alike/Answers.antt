use Rattle.std.proofs.Common.{ℕ, ◌≡◌, ◌<◌, ⊎_elim, sym, subst, arith}
use Rattle.lw_mealy.specs.Machine.{Differ}
use Rattle.lw_separate.specs.bodies.Alike.{LaterDiffer}
use Rattle.lw_separate.proofs.SearchLemmas.{last_or_before}
use Rattle.lw_separate.proofs.alike_states.first_alike.Goals as goal

pub returns-in-Some : goal.returns-in-Some
returns-in-Some c =
    let n = c.in-Some.ensures in
    record {
      rising = n.after;
      state = n.state;
      alike = n.alike;
      first = λ p q pq lq e. ⊎_elim
          (λ (l : p < c.loop-p.p). c.loop-p.invariant p q l pq lq)
          (λ (s : (p ≡ c.loop-p.p) × (q < c.in-Some.q)). subst (λ (r : ℕ). Differ c.args.m.now.inputs c.args.m.now.rows r q) (sym s.0) (n.least q (omega (arith, pq, s.0)) s.1))
          e;
    }

pub loop-p-preserved : goal.loop-p-preserved
loop-p-preserved c r s lr rs ls =
    let none : LaterDiffer c.args.m.now.inputs c.args.m.now.rows c.loop-p.p = c.in_default.ensures in
    ⊎_elim
    (λ (l : r < c.loop-p.p). c.loop-p.invariant r s l rs ls)
    (λ (e : r ≡ c.loop-p.p). subst (λ (t : ℕ). Differ c.args.m.now.inputs c.args.m.now.rows t s) (sym e) (none s (omega (arith, rs, e)) ls))
    (last_or_before r c.loop-p.p lr)
