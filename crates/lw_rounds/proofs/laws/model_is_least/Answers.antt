use Rattle.lw_rounds.proofs.LawLemmas.{model_is_least}
use Rattle.lw_rounds.proofs.laws.model_is_least.Goals as goal

pub returns : goal.returns
returns c = model_is_least
