use Rattle.std.proofs.Common.{◌+◌, ◌*◌, ℕ, ap, sym, ◌∙◌}
use Rattle.lw_wp.proofs.CursorLemmas.{length-blocks}
use Rattle.lw_wp.proofs.cursor.front_count.Goals as goal

pub returns-clause-count : goal.returns-clause-count
returns-clause-count c = ap (λ (n : ℕ). n * (c.args.parts.now.shorter + c.args.parts.now.longest)) c.len.ensures ∙ sym (length-blocks c.args.parts.now c.requires)
