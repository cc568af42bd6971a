use Rattle.std.proofs.Common.{◌≡◌, ◌+◌, ◌*◌, ◌∙◌, ℕ, length, refl, ap, arith}
use Rattle.lw_draw.specs.Drawn.{after_draws, seeded}
use Rattle.lw_draw.proofs.WalkLemmas.{filled_more}
use Rattle.lw_draw.proofs.walks.fill.Goals as goal

pub loop-index-init : goal.loop-index-init
loop-index-init c =
    let p = c.args.parts.now in
    let none : c.args.given ≡ c.args.given + 0 = omega arith in
    record {
      at = c.in_ok-random.ensures ∙ (c.requires.behind.at ∙ ap (λ (i : ℕ). after_draws (seeded p.drawn.seed) ((length p.access * p.drawn.count + i) * (p.drawn.length + 1))) none);
      words = refl;
      long = omega arith;
    }

pub loop-index-preserved : goal.loop-index-preserved
loop-index-preserved c = filled_more c.args.parts.now c.args.given c.loop-index.index c.args.count (c.from.result + c.loop-index.index) c.loop-index.random c.put_walk.new.random c.loop-index.chunk.items c.put_walk.new.chunk.items c.loop-index.invariant c.loop-index-test.true c.requires.within (ap (λ (n : ℕ). n + c.loop-index.index) c.from.ensures) c.in_ok-put_walk.ensures.word c.in_ok-put_walk.ensures.random c.in_ok-put_walk.ensures.long
