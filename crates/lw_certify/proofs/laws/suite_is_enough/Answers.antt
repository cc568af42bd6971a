use Rattle.lw_certify.proofs.EnoughLemmas.{suite_is_enough}
use Rattle.lw_certify.proofs.laws.suite_is_enough.Goals as goal

pub returns : goal.returns
returns c = suite_is_enough
