use Rattle.lw_wp.proofs.WpSuiteLemmas.{wp_suite_is_counted}
use Rattle.lw_wp.proofs.laws.wp_suite_is_counted.Goals as goal

pub returns : goal.returns
returns c = wp_suite_is_counted
