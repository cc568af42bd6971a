use Rattle.lw_tree.proofs.FewLemmas.{finals_are_few}
use Rattle.lw_tree.proofs.laws.finals_are_few.Goals as goal

pub returns : goal.returns
returns c = finals_are_few
