use Rattle.std.proofs.Common.{ℕ, List, length, ap, arith}
use Rattle.lw_words.specs.Word.{answers_of}
use Rattle.lw_apart.proofs.FirstLemmas.{item_is, pair_of, pair_is, unmet, open_map, met_all}
use Rattle.lw_apart.proofs.pairs.first_with_access.Goals as goal

pub returns-then-branch : goal.returns-then-branch
returns-then-branch c =
    let h = c.args.h.now.rows in
    let ks = answers_of c.args.cache.now.kept in
    let v = c.args.word.now in
    let u : List ℕ = c.one-item.result in
    open_map h ks (λ w. (w, v)) c.args.access.now c.loop-one.one-index u _ (omega (arith, c.loop-one-test.true, ap (λ (ws : List (List ℕ)). length ws) c.as_slice-one-items.ensures)) (item_is c.args.access.now c.as_slice-one-items.result.now c.loop-one.one-index u c.as_slice-one-items.ensures (omega arith) c.one-item.is)
    (unmet h ks (pair_of u v) c.in_ok-is_open.field-0 c.in_ok-is_open.ensures c.if-branch.true) c.loop-one.invariant
    (pair_is c.in_ok-copy.field-0 c.in_ok-copy-2.field-0 u v c.in_ok-copy.ensures c.in_ok-copy-2.ensures)

pub returns : goal.returns
returns c =
    let h = c.args.h.now.rows in
    let ks = answers_of c.args.cache.now.kept in
    let v = c.args.word.now in
    met_all h ks (λ w. (w, v)) c.args.access.now c.loop-one.one-index (omega (arith, c.loop-one-test.false, ap (λ (ws : List (List ℕ)). length ws) c.as_slice-one-items.ensures)) c.loop-one.invariant
