use Rattle.lw_tree.proofs.FewLemmas.{inners_are_few}
use Rattle.lw_tree.proofs.laws.inners_are_few.Goals as goal

pub returns : goal.returns
returns c = inners_are_few
