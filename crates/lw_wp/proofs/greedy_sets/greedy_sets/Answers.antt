use Rattle.std.proofs.Common.{rules, ℕ, List, Vec, Global, subst, sym}
use Rattle.lw_separate.proofs.PushLemmas.{EachOf, each_push}
use Rattle.lw_wp.specs.GreedySuite.{IsGreedy, states_of}
use Rattle.lw_wp.proofs.greedy_sets.greedy_sets.Goals as goal

pub loop-q-preserved : goal.loop-q-preserved
loop-q-preserved c =
    let h = c.loop-q.invariant in
    let P : ℕ → List ℕ → Type 0 = λ k. IsGreedy c.args.m.now.rows c.args.by.now.words k (states_of c.args.m.now.rows) in
    record {
      long = search rules;
      each = subst (λ (l : List (Vec ℕ Global)). EachOf (λ (v : Vec ℕ Global). v.items) P l) (sym {A = List (Vec ℕ Global)} c.in_ok-push.ensures.items)
          (each_push (λ (v : Vec ℕ Global). v.items) P c.loop-q.own.items c.loop-q.q c.in_ok-greedy_numbers.field-0 h.long h.each c.in_ok-greedy_numbers.ensures);
    }
