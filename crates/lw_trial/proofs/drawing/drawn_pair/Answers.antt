use Rattle.std.proofs.Common.{◌≡◌, ◌%◌, ◌∙◌, ℕ, ap, ap₂}
use Rattle.rand_pcg.specs.Lcg.{Lcg}
use Rattle.lw_draw.specs.Drawn.{after_draws, draw_at}
use Rattle.lw_draw.proofs.DrawLemmas.{draw_then, draws_then}
use Rattle.lw_trial.proofs.drawing.drawn_pair.Goals as goal

pub returns-clause-target : goal.returns-clause-target
returns-clause-target c = ap₂ (λ (w n : ℕ). w % n) c.draw.ensures.number c.from.ensures

pub returns-clause-output : goal.returns-clause-output
returns-clause-output c = ap (λ (w : ℕ). w % 2) (c.draw-output.ensures.number ∙ (ap (λ (h : Lcg). draw_at h 0) c.draw.ensures.next ∙ draw_then c.args.random.now 1 0))

pub returns-clause-random : goal.returns-clause-random
returns-clause-random c = c.draw-output.ensures.next ∙ (ap (λ (h : Lcg). after_draws h 1) c.draw.ensures.next ∙ draws_then c.args.random.now 1 1)
