use Rattle.lw_renumber.proofs.LawLemmas.{renamed_never_clash}
use Rattle.lw_renumber.proofs.laws.renamed_never_clash.Goals as goal

pub returns : goal.returns
returns c = renamed_never_clash
