use Rattle.lw_rounds.proofs.LawLemmas.{too_many_is_none}
use Rattle.lw_rounds.proofs.laws.too_many_is_none.Goals as goal

pub returns : goal.returns
returns c = too_many_is_none
