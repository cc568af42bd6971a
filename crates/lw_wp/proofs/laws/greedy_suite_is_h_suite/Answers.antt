use Rattle.lw_wp.proofs.GreedySuiteLemmas.{greedy_is_h_suite}
use Rattle.lw_wp.proofs.laws.greedy_suite_is_h_suite.Goals as goal

pub returns : goal.returns
returns c = greedy_is_h_suite
