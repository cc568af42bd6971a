use Rattle.lw_suite.proofs.SuiteLemmas.{one_suite}
use Rattle.lw_suite.proofs.laws.suite_is_unique.Goals as goal

pub returns : goal.returns
returns c = one_suite
