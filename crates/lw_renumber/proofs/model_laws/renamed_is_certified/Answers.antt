use Rattle.lw_renumber.proofs.LawLemmas.{renamed_is_certified}
use Rattle.lw_renumber.proofs.model_laws.renamed_is_certified.Goals as goal

pub returns : goal.returns
returns c = renamed_is_certified
