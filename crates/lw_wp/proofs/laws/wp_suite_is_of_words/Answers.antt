use Rattle.lw_wp.proofs.WpSuiteLemmas.{wp_suite_is_of_words}
use Rattle.lw_wp.proofs.laws.wp_suite_is_of_words.Goals as goal

pub returns : goal.returns
returns c = wp_suite_is_of_words
