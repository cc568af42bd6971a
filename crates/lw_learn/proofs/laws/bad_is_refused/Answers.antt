use Rattle.lw_learn.proofs.ToldLemmas.{bad_is_refused}
use Rattle.lw_learn.proofs.laws.bad_is_refused.Goals as goal

pub returns : goal.returns
returns c = bad_is_refused
