use Rattle.lw_tree.proofs.BranchLemmas.{access_is_crowd}
use Rattle.lw_tree.proofs.laws.access_is_crowd.Goals as goal

pub returns : goal.returns
returns c = access_is_crowd
