use Rattle.lw_renumber.proofs.PlainLemmas.{renamed_learns_plainly}
use Rattle.lw_renumber.proofs.model_laws.renamed_learns_plainly.Goals as goal

pub returns : goal.returns
returns c = renamed_learns_plainly
