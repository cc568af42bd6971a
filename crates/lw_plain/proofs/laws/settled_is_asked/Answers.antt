use Rattle.lw_plain.proofs.TurnLemmas.{settled_is_asked}
use Rattle.lw_plain.proofs.laws.settled_is_asked.Goals as goal

pub returns : goal.returns
returns c = settled_is_asked
