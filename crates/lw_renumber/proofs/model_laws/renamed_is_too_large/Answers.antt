use Rattle.lw_renumber.proofs.LawLemmas.{renamed_is_too_large}
use Rattle.lw_renumber.proofs.model_laws.renamed_is_too_large.Goals as goal

pub returns : goal.returns
returns c = renamed_is_too_large
