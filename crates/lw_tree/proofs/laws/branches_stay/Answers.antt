use Rattle.lw_tree.proofs.BranchLemmas.{branches_stay}
use Rattle.lw_tree.proofs.laws.branches_stay.Goals as goal

pub returns : goal.returns
returns c = branches_stay
