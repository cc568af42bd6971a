use Rattle.lw_plain.proofs.OneLemmas.{one_plain_end}
use Rattle.lw_plain.proofs.laws.plain_end_is_unique.Goals as goal

pub returns : goal.returns
returns c = one_plain_end
