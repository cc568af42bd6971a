use Rattle.lw_renumber.proofs.LawLemmas.{renamed_gives}
use Rattle.lw_renumber.proofs.laws.renamed_gives.Goals as goal

pub returns : goal.returns
returns c = renamed_gives
