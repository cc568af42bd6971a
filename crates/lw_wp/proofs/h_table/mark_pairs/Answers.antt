use Rattle.std.proofs.Common.{◌≡◌, ◌<◌, ℕ, List, [], Vec, Global, All, true, length, map, get_or, set, subst, ap, ◌∙◌, arith}
use Rattle.std.proofs.lemmas.List.Elements.{All-get_or}
use Rattle.lw_wp.specs.GreedySuite.{first_apart}
use Rattle.lw_wp.proofs.HTableLemmas.{own_below, own_read, pair_marked, pair_none}
use Rattle.lw_wp.proofs.h_table.mark_pairs.Goals.{in-Some, in_default}
use Rattle.lw_wp.proofs.h_table.mark_pairs.Goals as goal

pub first_of-requires-clause-numbers : goal.first_of-requires-clause-numbers
first_of-requires-clause-numbers c =
    let words = c.args.by.now.words in
    let items : Vec ℕ Global → List ℕ = λ v. v.items in
    let own : List (List ℕ) = map items c.args.own.now in
    let r = get_or c.args.states.now c.loop-r.r-index 0 in
    let below : r < length c.args.m.now.rows = All-get_or (λ (p : ℕ). p < length c.args.m.now.rows) c.args.states.now c.loop-r.r-index 0 c.loop-r-test.true c.requires.states in
    let lt : r < length own = let l = c.requires.own.long in omega (arith, l, below) in
    let is : get_or own r [] ≡ c.as_slice.result.now = own_read items c.args.own.now r c.from.result c.index-own-from.result c.as_slice.result.now lt c.from.ensures c.index-own-from.is c.as_slice.ensures.value in
    subst (All (λ (i : ℕ). i < length words)) is (own_below c.args.m.now.inputs c.args.m.now.rows words own c.requires.own r)

pub loop-r-preserved : goal.loop-r-preserved
loop-r-preserved c =
    let h = c.args.m.now.rows in
    let words = c.args.by.now.words in
    let items : Vec ℕ Global → List ℕ = λ v. v.items in
    let own : List (List ℕ) = map items c.args.own.now in
    let r = get_or c.args.states.now c.loop-r.r-index 0 in
    let below : r < length h = All-get_or (λ (p : ℕ). p < length h) c.args.states.now c.loop-r.r-index 0 c.loop-r-test.true c.requires.states in
    let lt : r < length own = let l = c.requires.own.long in omega (arith, l, below) in
    let is : get_or own r [] ≡ c.as_slice.result.now = own_read items c.args.own.now r c.from.result c.index-own-from.result c.as_slice.result.now lt c.from.ensures c.index-own-from.is c.as_slice.ensures.value in
    let long : length c.loop-r.marks ≡ length words = c.loop-r.invariant.long ∙ c.requires.marks in
    elim c.match-first_of.branch [
      | in-Some w ↦
          pair_marked h words own c.args.q c.args.states.now c.loop-r.r-index c.loop-r-test.true c.args.marks.now c.loop-r.marks c.loop-r.invariant w.in-Some.number c.match-first_of.marks
          (ap (λ (l : List ℕ). first_apart h words l r c.args.q) is ∙ w.in-Some.ensures.1)
          (let l = w.in-Some.ensures.0 in omega (arith, l, long))
          (w.marks-is ∙ ap (λ (n : ℕ). set c.loop-r.marks n true) w.from-in-Some.ensures)
      | in_default w ↦
          rw w.marks-is (pair_none h words own c.args.q c.args.states.now c.loop-r.r-index c.loop-r-test.true c.args.marks.now c.loop-r.marks c.loop-r.invariant
          (ap (λ (l : List ℕ). first_apart h words l r c.args.q) is ∙ w.in_default.ensures))
    ]
