use Rattle.lw_plain.proofs.TakenLemmas.{takes_on}
use Rattle.lw_plain.proofs.laws.takes_on_and_on.Goals as goal

pub returns : goal.returns
returns c = takes_on
