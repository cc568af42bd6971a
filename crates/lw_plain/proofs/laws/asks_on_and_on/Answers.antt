use Rattle.lw_plain.proofs.TurnLemmas.{asks_on}
use Rattle.lw_plain.proofs.laws.asks_on_and_on.Goals as goal

pub returns : goal.returns
returns c = asks_on
