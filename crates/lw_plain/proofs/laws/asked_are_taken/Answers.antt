use Rattle.lw_plain.proofs.TakenLemmas.{asked_are_taken}
use Rattle.lw_plain.proofs.laws.asked_are_taken.Goals as goal

pub returns : goal.returns
returns c = asked_are_taken
