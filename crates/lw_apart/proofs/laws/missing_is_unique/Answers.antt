use Rattle.lw_apart.proofs.OneMissing.{one_missing}
use Rattle.lw_apart.proofs.laws.missing_is_unique.Goals as goal

pub returns : goal.returns
returns c = one_missing
