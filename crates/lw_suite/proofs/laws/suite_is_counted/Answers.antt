use Rattle.lw_suite.proofs.SuiteLemmas.{suite_is_counted}
use Rattle.lw_suite.proofs.laws.suite_is_counted.Goals as goal

pub returns : goal.returns
returns c = suite_is_counted
