use Rattle.lw_plain.proofs.OrderLemmas.{taken_is_one}
use Rattle.lw_plain.proofs.laws.taken_is_one.Goals as goal

pub returns : goal.returns
returns c = taken_is_one
