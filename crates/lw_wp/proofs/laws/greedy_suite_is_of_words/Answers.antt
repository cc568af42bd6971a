use Rattle.lw_wp.proofs.GreedySuiteLemmas.{greedy_is_of_words}
use Rattle.lw_wp.proofs.laws.greedy_suite_is_of_words.Goals as goal

pub returns : goal.returns
returns c = greedy_is_of_words
