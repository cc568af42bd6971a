use Rattle.lw_separate.proofs.OneLemmas.{one_separators}
use Rattle.lw_separate.proofs.laws.separators_are_unique.Goals as goal

pub returns : goal.returns
returns c = one_separators
