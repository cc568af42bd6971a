use Rattle.lw_wp.proofs.GreedySuiteLemmas.{one_greedy_suite}
use Rattle.lw_wp.proofs.laws.greedy_suite_is_unique.Goals as goal

pub returns : goal.returns
returns c = one_greedy_suite
