use Rattle.std.proofs.Common.{◌≡◌, ◌<◌, ◌+◌, ◌-◌, ◌∷◌, [], ℕ, length, Some, subst, sym, ap, ◌∙◌, arith, length-append}
use Rattle.lw_plain.specs.Table.{PlainTable, with_access_word, close, first_new}
use Rattle.lw_plain.specs.Over.{IsOver}
use Rattle.lw_plain.proofs.OverLemmas.{new_is_word, over_access}
use Rattle.lw_plain.proofs.LawLemmas.{closing_on}
use Rattle.lw_plain_run.proofs.table.Table.close.Goals as goal

pub loop-count-preserved : goal.loop-count-preserved
loop-count-preserved c =
    let a = c.args.m.now.inputs in
    let m = c.args.m.now.rows in
    let t = c.loop-count.self in
    let w = c.in-Some.word in
    let new : first_new a m t ≡ Some w = sym c.in_ok-found.ensures ∙ c.in-Some.is in
    let now : c.add_access.new.self ≡ with_access_word a t w = c.in_ok-add_access.ensures ∙ ap (λ (n : ℕ). with_access_word n t w) c.inputs.ensures.value in
    let word = new_is_word a m t w c.loop-count.invariant.over new in
    let below : c.loop-count.count < c.args.most = let is = c.from-count-end.ensures in let lt = c.loop-count-test.true in omega (arith, is, lt) in
    record {
      over = subst (IsOver a) (sym now) (over_access a t w c.loop-count.invariant.over word);
      count = ap (λ (s : PlainTable). length s.access) now ∙ (length-append t.access (w ∷ []) ∙ ap (λ (n : ℕ). n + 1) c.loop-count.invariant.count);
      left = ap (λ (s : PlainTable). close a m (c.args.most - (c.loop-count.count + 1)) s) now ∙ closing_on a m c.args.most c.loop-count.count _ t w below new c.loop-count.invariant.left;
    }
