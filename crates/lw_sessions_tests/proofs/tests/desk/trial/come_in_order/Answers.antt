use Rattle.std.proofs.Common.{◌≡◌, ◌≢◌, ◌⊎◌, inl, inr, ◌+◌, ◌<◌, ℕ, List, length, take, get_or, sym, ◌∙◌, subst, arith}
use Rattle.std.proofs.lemmas.List.{take_more}
use Rattle.lw_names.specs.Names.{with_names}
use Rattle.lw_words.specs.Word.{named}
use Rattle.lw_sessions_tests.proofs.TestTrials.{order_more}
use Rattle.lw_sessions_tests.proofs.tests.desk.trial.come_in_order.Goals as goal
use Rattle.lw_sessions_tests.proofs.tests.desk.trial.come_in_order.Goals.{then-number-seen-2, else-number-seen-2}

pub loop-y-preserved : goal.loop-y-preserved
loop-y-preserved c =
    let i : ℕ = c.loop-y.y-index in
    let all = c.args.all.now in
    let outs = c.args.outs.now in
    let seen : ℕ = c.loop-y.seen in
    let now : ℕ = c.if-number-seen-2.seen in
    let y : ℕ = get_or outs i 0 in
    let lt : i < length outs = omega arith in
    let step : ((y ≡ seen) × (now ≡ seen + 1)) ⊎ ((y ≢ seen) × (now ≡ seen)) =
    elim c.if-number-seen-2.branch [ then-number-seen-2 w ↦ inl (omega (arith, c.from-number.ensures, w.if-number-seen-2.true), w.seen-is) | else-number-seen-2 w ↦ inr (λ e. w.if-number-seen-2.false (c.from-number.ensures ∙ e), w.seen-is) ] in
    let r = order_more all (take c.args.own all) (take i outs) y seen now c.requires.differ (c.requires.numbers i 0 lt) (omega (arith, c.if-number-seen.false, c.from-number.ensures)) c.loop-y.invariant.within c.loop-y.invariant.names step in
    record {
      names = subst (λ (ys : List ℕ). with_names (take c.args.own all) (named all ys) ≡ take now all) (sym (take_more outs i 0 lt)) r.0;
      within = r.1;
    }
