use Rattle.lw_rounds.proofs.LawLemmas.{model_is_canonical}
use Rattle.lw_rounds.proofs.laws.model_is_canonical.Goals as goal

pub returns : goal.returns
returns c = model_is_canonical
