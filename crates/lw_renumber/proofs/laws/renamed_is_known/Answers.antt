use Rattle.lw_renumber.proofs.LawLemmas.{renamed_is_known}
use Rattle.lw_renumber.proofs.laws.renamed_is_known.Goals as goal

pub returns : goal.returns
returns c = renamed_is_known
