use Rattle.lw_rounds.proofs.LawLemmas.{too_large_is_least}
use Rattle.lw_rounds.proofs.laws.too_large_is_least.Goals as goal

pub returns : goal.returns
returns c = too_large_is_least
