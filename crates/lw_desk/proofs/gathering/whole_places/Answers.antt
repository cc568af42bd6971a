use Rattle.std.proofs.Common.{◌≡◌, ℕ, ◌+◌, ◌-◌, ◌<◌, length, drop, refl, sym, subst, arith}
use Rattle.lw_desk.specs.bodies.Gathering.{AreWholeOf}
use Rattle.lw_desk.proofs.GatherLemmas.{whole_keeps, not_told}
use Rattle.lw_desk.proofs.gathering.whole_places.Goals as goal

pub loop-at-preserved-in-Continue-branch-2 : goal.loop-at-preserved-in-Continue-branch-2
loop-at-preserved-in-Continue-branch-2 c =
    let at : ℕ = c.loop-at.at - 1 in
    let words = c.args.words.now in
    let places = c.args.places.now in
    let lt : at < length places = omega (arith, c.loop-at.invariant.within, c.loop-at-test.true) in
    let here : c.loop-at.at ≡ at + 1 = omega (arith, c.loop-at-test.true) in
    record {
      within = omega (arith, lt);
      whole = subst (AreWholeOf words (drop at places)) (sym c.in_ok-push.ensures.items)
          (whole_keeps words places at _ c.loop-at.whole.items lt refl (λ begins. not_told c.begins_next.result c.if-not-begins_next.true (c.begins_next.ensures.1 begins))
          (subst (λ (n : ℕ). AreWholeOf words (drop n places) c.loop-at.whole.items) here c.loop-at.invariant.whole));
    }
