use Rattle.std.proofs.Common.{All, take}
use Rattle.lw_words.specs.Word.{IsName, AllDiffer}
use Rattle.lw_sessions_tests.proofs.tests.desk.trial.differ.Given as goal

abbrev pub invariant-loop-i : goal.invariant-loop-i
invariant-loop-i l = record {
  differ : AllDiffer (take l.i l.all);
  names : All IsName (take l.i l.all);
}
