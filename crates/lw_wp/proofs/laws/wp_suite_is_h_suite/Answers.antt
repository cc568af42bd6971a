use Rattle.lw_wp.proofs.TellsLemmas.{wp_suite_tells}
use Rattle.lw_wp.proofs.WpSuiteLemmas.{wp_suite_is_counted, wp_suite_is_of_words}
use Rattle.lw_wp.proofs.laws.wp_suite_is_h_suite.Goals as goal

pub returns : goal.returns
returns c a h k suite machine is = record {
  letters = wp_suite_is_of_words a h k suite is;
  tells = wp_suite_tells a h k suite machine is;
  few = wp_suite_is_counted a h k suite machine is;
}
