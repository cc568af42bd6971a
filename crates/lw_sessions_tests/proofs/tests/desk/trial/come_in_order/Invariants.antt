use Rattle.std.proofs.Common.{◌≡◌, ◌≤◌, length, take}
use Rattle.lw_names.specs.Names.{with_names}
use Rattle.lw_words.specs.Word.{named}
use Rattle.lw_sessions_tests.proofs.tests.desk.trial.come_in_order.Given as goal

abbrev pub invariant-loop-y : goal.invariant-loop-y
invariant-loop-y l = record {
  names : with_names (take l.own l.all) (named l.all (take l.y-index l.outs)) ≡ take l.seen l.all;
  within : l.seen ≤ length l.all;
}
