use Rattle.lw_renumber.proofs.LawLemmas.{renamed_clashes}
use Rattle.lw_renumber.proofs.laws.renamed_clashes.Goals as goal

pub returns : goal.returns
returns c = renamed_clashes
