use Rattle.std.proofs.Common.{◌≡◌, subst}
use Rattle.rand_pcg.specs.Lcg.{Lcg}
use Rattle.lw_draw.specs.Drawn.{after_draws, draw_at}
use Rattle.lw_draw.proofs.DrawLemmas.{one_draw}
use Rattle.lw_draw.proofs.generator.Generator.draw.Goals as goal

pub returns-clause-number : goal.returns-clause-number
returns-clause-number c = subst (λ (g : Lcg). c.next_word.result ≡ draw_at g 0) c.self.view_is (one_draw c.self.inside.pcg c.next_word.new.self c.next_word.result c.next_word.ensures).0

pub returns-clause-next : goal.returns-clause-next
returns-clause-next c = subst (λ (g : Lcg). c.next_word.new.self ≡ after_draws g 1) c.self.view_is (one_draw c.self.inside.pcg c.next_word.new.self c.next_word.result c.next_word.ensures).1
