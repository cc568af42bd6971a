use Rattle.std.proofs.Common.{◌≡◌, length}
use Rattle.lw_base_tests.proofs.tests.links.agrees_with_plain_lists.Given as goal

abbrev pub invariant-loop-round : goal.invariant-loop-round
invariant-loop-round g l = record {
  owners : length l.lists.lists ≡ 7;
  cells : l.lists.cells ≡ 60;
}
