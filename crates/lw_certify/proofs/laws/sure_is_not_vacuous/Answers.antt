use Rattle.lw_certify.proofs.WorkedLemmas.{as_worked}
use Rattle.lw_certify.proofs.laws.sure_is_not_vacuous.Goals as goal

pub returns : goal.returns
returns c = as_worked
