use Rattle.lw_renumber.proofs.OccurLemmas.{outputs_occur}
use Rattle.lw_renumber.proofs.model_laws.outputs_occur.Goals as goal

pub returns : goal.returns
returns c = outputs_occur
