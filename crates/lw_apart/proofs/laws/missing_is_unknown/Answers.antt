use Rattle.lw_apart.proofs.VerdictLemmas.{missing_is_unknown}
use Rattle.lw_apart.proofs.laws.missing_is_unknown.Goals as goal

pub returns : goal.returns
returns c = missing_is_unknown
