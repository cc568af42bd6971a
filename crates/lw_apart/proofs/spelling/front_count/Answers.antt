use Rattle.std.proofs.Common.{ℕ, ◌*◌, sym, ap, ◌∙◌}
use Rattle.lw_apart.proofs.SpellingLemmas.{count_fronts}
use Rattle.lw_apart.proofs.spelling.front_count.Goals as goal

pub returns : goal.returns
returns c = ap (λ (n : ℕ). n * c.args.fronts.now.middles) c.len.ensures ∙ sym (count_fronts c.args.fronts.now)
