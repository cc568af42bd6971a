use Rattle.lw_wp.proofs.WpSuiteLemmas.{one_wp_suite}
use Rattle.lw_wp.proofs.laws.wp_suite_is_unique.Goals as goal

pub returns : goal.returns
returns c = one_wp_suite
