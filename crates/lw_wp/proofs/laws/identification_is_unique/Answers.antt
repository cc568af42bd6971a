use Rattle.lw_wp.proofs.IdentificationLemmas.{one_identification}
use Rattle.lw_wp.proofs.laws.identification_is_unique.Goals as goal

pub returns : goal.returns
returns c = one_identification
