use Rattle.std.proofs.Common.{◌≡◌, ◌+◌, ◌*◌, ◌∙◌, ℕ, length, ap, ap₂, sym, arith}
use Rattle.lw_draw.specs.Drawn.{after_draws}
use Rattle.lw_draw.proofs.walks.Walks.new.Goals as goal

pub invariant_of-result : goal.invariant_of-result
invariant_of-result c =
    let count = c.args.drawn.count in
    let each = c.args.drawn.length + 1 in
    let states : ℕ = length c.in_ok-access.access in
    let none : states * count ≡ states * count + 0 = omega arith in
    record {
      within = omega arith;
      at = c.skip.ensures
          ∙ ap₂ after_draws c.of_seed-random.ensures
          (c.numbers_before.ensures ∙ (ap (λ (n : ℕ). n * count * each) (c.states.ensures.value ∙ sym c.in_ok-access.ensures.each) ∙ ap (λ (n : ℕ). n * each) none));
    }
