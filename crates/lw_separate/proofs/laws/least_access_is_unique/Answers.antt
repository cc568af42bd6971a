use Rattle.lw_separate.proofs.OneLemmas.{one_least_access}
use Rattle.lw_separate.proofs.laws.least_access_is_unique.Goals as goal

pub returns : goal.returns
returns c = one_least_access
