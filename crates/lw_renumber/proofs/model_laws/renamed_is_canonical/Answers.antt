use Rattle.lw_renumber.proofs.LawLemmas.{renamed_is_canonical}
use Rattle.lw_renumber.proofs.model_laws.renamed_is_canonical.Goals as goal

pub returns : goal.returns
returns c = renamed_is_canonical
