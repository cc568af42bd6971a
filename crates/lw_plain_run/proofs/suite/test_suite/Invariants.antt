use Rattle.std.proofs.Common.{length}
use Rattle.std.specs.List.{All}
use Rattle.lw_words.specs.Word.{IsWord}
use Rattle.lw_plain.specs.Tested.{HasTested}
use Rattle.lw_plain.specs.Over.{IsOver}
use Rattle.lw_plain_run.proofs.suite.test_suite.Given as goal

abbrev pub invariant-loop-chunk : goal.invariant-loop-chunk
invariant-loop-chunk l = record {
  over : IsOver l.m.inputs l.table;
  letters : All (IsWord l.m.inputs) l.suite;
  tested : HasTested l.m.rows l.h.rows l.initial.suite l.suite l.initial.table l.table;
}

abbrev pub decreases-loop-chunk : goal.decreases-loop-chunk
decreases-loop-chunk l = length l.suite
