use Rattle.std.proofs.Common.{◌%◌, ℕ, ap₂}
use Rattle.lw_draw.proofs.drawing.draw_letter.Goals as goal

pub returns-clause-letter : goal.returns-clause-letter
returns-clause-letter c = ap₂ (λ (w n : ℕ). w % n) c.draw.ensures.number c.from.ensures
