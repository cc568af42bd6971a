use Rattle.lw_compare.proofs.UniqueLemmas.{one_comparison}
use Rattle.lw_compare.proofs.laws.comparison_is_unique.Goals as goal

pub returns : goal.returns
returns c = one_comparison
