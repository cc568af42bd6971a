use Rattle.lw_renumber.proofs.LawLemmas.{renamed_is_sure}
use Rattle.lw_renumber.proofs.model_laws.renamed_is_sure.Goals as goal

pub returns : goal.returns
returns c = renamed_is_sure
