use Rattle.lw_apart.proofs.VerdictLemmas.{missing_uncovered}
use Rattle.lw_apart.proofs.laws.missing_is_uncovered.Goals as goal

pub returns : goal.returns
returns c = missing_uncovered
