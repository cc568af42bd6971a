use Rattle.std.proofs.Common.{rules, ℕ, List, Vec, Global, [], map, subst, sym}
use Rattle.lw_wp.specs.GreedySuite.{AreGreedyRows}
use Rattle.lw_wp.proofs.RowLemmas.{EachOf, each_push}
use Rattle.lw_wp.proofs.h_table.h_table.Goals as goal

pub loop-q-preserved : goal.loop-q-preserved
loop-q-preserved c =
    let h = c.loop-q.invariant in
    let items : Vec ℕ Global → List ℕ = λ v. v.items in
    let rows : Vec (Vec ℕ Global) Global → List (List ℕ) = λ v. map items v.items in
    let P : ℕ → List (List ℕ) → Type 0 = AreGreedyRows c.args.m.now.inputs c.args.m.now.rows c.args.extra c.args.by.now.words (map items c.in_ok-own.own.items) in
    let made : P c.loop-q.q (rows c.in_ok-rows_of.field-0) =
    subst (λ (own : List (Vec ℕ Global)). AreGreedyRows c.args.m.now.inputs c.args.m.now.rows c.args.extra c.args.by.now.words (map items own) c.loop-q.q (rows c.in_ok-rows_of.field-0)) c.as_slice.ensures.value c.in_ok-rows_of.ensures in
    record {
      long = search rules;
      each = subst (λ (l : List (Vec (Vec ℕ Global) Global)). EachOf rows P [] l) (sym {A = List (Vec (Vec ℕ Global) Global)} c.in_ok-push.ensures.items)
          (each_push rows P [] c.loop-q.table.items c.loop-q.q c.in_ok-rows_of.field-0 h.long h.each made);
    }
