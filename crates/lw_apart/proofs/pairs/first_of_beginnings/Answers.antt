use Rattle.std.proofs.Common.{ℕ, List, length, subst, ap, arith}
use Rattle.std.specs.List.{flat_map}
use Rattle.lw_words.specs.Word.{answers_of}
use Rattle.lw_chunks.specs.Middle.{words_of_length}
use Rattle.lw_apart.specs.Pairs.{along}
use Rattle.lw_apart.specs.bodies.Stages.{FirstOpen}
use Rattle.lw_apart.proofs.FirstLemmas.{item_is, open_flat, lists_more, lists_all}
use Rattle.lw_apart.proofs.pairs.first_of_beginnings.Goals as goal

pub returns-in-Some : goal.returns-in-Some
returns-in-Some c =
    let h = c.args.h.now.rows in
    let ks = answers_of c.args.cache.now.kept in
    let f = c.args.fronts.now in
    let i = c.loop-access.access-index in
    let u : List ℕ = c.access-item.result in
    let list = λ (v : List ℕ). flat_map (along f.longest v) (words_of_length f.inputs f.longest) in
    let is = item_is f.access c.as_slice-access-items.result.now i u c.as_slice-access-items.ensures (omega arith) c.access-item.is in
    open_flat h ks list f.access i u c.in-Some.pair (omega (arith, c.loop-access-test.true, ap (λ (ws : List (List ℕ)). length ws) c.as_slice-access-items.ensures)) is c.loop-access.invariant
    (subst (FirstOpen h ks (list u)) c.in-Some.is c.in_ok-pair.ensures)

pub loop-access-preserved : goal.loop-access-preserved
loop-access-preserved c =
    let h = c.args.h.now.rows in
    let ks = answers_of c.args.cache.now.kept in
    let f = c.args.fronts.now in
    let i = c.loop-access.access-index in
    let u : List ℕ = c.access-item.result in
    let list = λ (v : List ℕ). flat_map (along f.longest v) (words_of_length f.inputs f.longest) in
    let is = item_is f.access c.as_slice-access-items.result.now i u c.as_slice-access-items.ensures (omega arith) c.access-item.is in
    lists_more h ks list f.access i u is (subst (FirstOpen h ks (list u)) c.in_default.is c.in_ok-pair.ensures) c.loop-access.invariant

pub returns : goal.returns
returns c =
    let f = c.args.fronts.now in
    lists_all c.args.h.now.rows (answers_of c.args.cache.now.kept) (λ v. flat_map (along f.longest v) (words_of_length f.inputs f.longest)) f.access c.loop-access.access-index
    (omega (arith, c.loop-access-test.false, ap (λ (ws : List (List ℕ)). length ws) c.as_slice-access-items.ensures)) c.loop-access.invariant
