use Rattle.lw_renumber.proofs.LawLemmas.{renamed_is_enough}
use Rattle.lw_renumber.proofs.model_laws.renamed_is_enough.Goals as goal

pub returns : goal.returns
returns c = renamed_is_enough
