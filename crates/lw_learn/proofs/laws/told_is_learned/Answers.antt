use Rattle.lw_learn.proofs.ToldLemmas.{told_is_learned}
use Rattle.lw_learn.proofs.laws.told_is_learned.Goals as goal

pub returns : goal.returns
returns c = told_is_learned
