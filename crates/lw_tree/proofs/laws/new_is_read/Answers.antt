use Rattle.lw_tree.proofs.BranchLemmas.{new_is_read}
use Rattle.lw_tree.proofs.laws.new_is_read.Goals as goal

pub returns : goal.returns
returns c = new_is_read
