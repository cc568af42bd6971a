use Rattle.lw_rounds.proofs.LawLemmas.{too_large_for_all}
use Rattle.lw_rounds.proofs.laws.too_large_for_all.Goals as goal

pub returns : goal.returns
returns c = too_large_for_all
