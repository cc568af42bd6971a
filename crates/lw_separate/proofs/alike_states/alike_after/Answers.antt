use Rattle.std.proofs.Common.{rules, ℕ, ◌≡◌, ◌≢◌, ◌<◌, ⊎_elim, get_or, sym, subst, arith}
use Rattle.lw_mealy.specs.Machine.{Differ}
use Rattle.lw_separate.proofs.SearchLemmas.{last_or_before}
use Rattle.lw_separate.proofs.MergeLemmas.{two_names_differ}
use Rattle.lw_separate.proofs.alike_states.alike_after.Goals as goal

pub loop-q-preserved : goal.loop-q-preserved
loop-q-preserved c r pr rq =
    let other : get_or c.args.names.now c.args.p 0 ≢ get_or c.args.names.now c.loop-q.q 0 = grind (arith, rules) in
    ⊎_elim
    (λ (l : r < c.loop-q.q). c.loop-q.invariant r pr l)
    (λ (s : r ≡ c.loop-q.q). subst (λ (t : ℕ). Differ c.args.m.now.inputs c.args.m.now.rows c.args.p t) (sym s)
    (two_names_differ c.args.m.now.inputs c.args.m.now.rows c.args.names.now c.requires.names c.args.p c.loop-q.q c.requires.state (omega arith) other))
    (last_or_before r c.loop-q.q rq)
