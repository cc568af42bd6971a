use Rattle.lw_tree.proofs.FewLemmas.{discriminators_are_short}
use Rattle.lw_tree.proofs.laws.discriminators_are_short.Goals as goal

pub returns : goal.returns
returns c = discriminators_are_short
