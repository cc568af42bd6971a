use Rattle.lw_wp.proofs.IdentificationLemmas.{identification_identifies}
use Rattle.lw_wp.proofs.laws.identification_identifies.Goals as goal

pub returns : goal.returns
returns c = identification_identifies
