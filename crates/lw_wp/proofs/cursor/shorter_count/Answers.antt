use Rattle.std.proofs.Common.{◌*◌, ℕ, ap, sym, ◌∙◌}
use Rattle.lw_wp.proofs.CursorLemmas.{length-shorter}
use Rattle.lw_wp.proofs.cursor.shorter_count.Goals as goal

pub returns-clause-count : goal.returns-clause-count
returns-clause-count c = ap (λ (n : ℕ). n * c.args.parts.now.shorter) c.len.ensures ∙ sym (length-shorter c.args.parts.now c.requires)
