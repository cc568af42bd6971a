use Rattle.lw_check.proofs.DecideLemmas.{one_decision}
use Rattle.lw_check.proofs.laws.decision_is_unique.Goals as goal

pub returns : goal.returns
returns c = one_decision
