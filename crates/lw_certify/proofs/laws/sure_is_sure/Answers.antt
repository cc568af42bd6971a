use Rattle.lw_certify.proofs.SureLemmas.{sure_is_sure}
use Rattle.lw_certify.proofs.laws.sure_is_sure.Goals as goal

pub returns : goal.returns
returns c = sure_is_sure
