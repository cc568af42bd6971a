use Rattle.std.proofs.Common.{refl, lit<}
use Rattle.lw_base_tests.proofs.WorkedMachines.{with_equal_states_unreached, ring_minimal, one_minimal}
use Rattle.lw_base_tests.proofs.tests.mealy.as_worked.Goals as goal

pub returns : goal.returns
returns c = record {
  one_answers = refl;
  counter_of_three_answers = refl;
  counter_of_three_after = refl;
  with_equal_states_answers = refl;
  with_equal_states_alike = refl;
  with_equal_states_unreached = with_equal_states_unreached;
  with_equal_states_not_minimal = λ minimal. with_equal_states_unreached (minimal.reached 3 (lit< tt));
  ring_answers = refl;
  one_minimal = one_minimal;
  ring_minimal = ring_minimal;
}
