use Rattle.lw_certify.proofs.OneVerdict.{one_verdict}
use Rattle.lw_certify.proofs.laws.verdict_is_unique.Goals as goal

pub returns : goal.returns
returns c = one_verdict
