use Rattle.lw_wp.proofs.TellsLemmas.{wp_suite_tells}
use Rattle.lw_wp.proofs.laws.wp_suite_tells.Goals as goal

pub returns : goal.returns
returns c = wp_suite_tells
