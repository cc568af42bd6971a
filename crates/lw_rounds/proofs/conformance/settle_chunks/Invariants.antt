use Rattle.std.proofs.Common.{None, length}
use Rattle.lw_words.specs.Word.{answers_of}
use Rattle.lw_cache.specs.Settling.{Leaves}
use Rattle.lw_rounds.specs.bodies.Plain.{TestsOn}
use Rattle.lw_rounds.proofs.ConformanceLemmas.{HasSettled}
use Rattle.lw_rounds.proofs.conformance.settle_chunks.Given as goal

abbrev pub invariant-loop-oracle : goal.invariant-loop-oracle
invariant-loop-oracle g l = record {
  settled : HasSettled l.hypothesis.inputs l.hypothesis.rows (answers_of (g.O.Oracle.state l.oracle).kept) (g.S.Chunks.left l.initial.suite) (g.S.Chunks.left l.suite);
  plainly : TestsOn l.hypothesis.rows (g.S.Chunks.left l.initial.suite) (g.S.Chunks.left l.suite) (g.O.Oracle.state l.initial.oracle) (g.O.Oracle.state l.oracle);
  leaves : Leaves (g.O.Oracle.state l.initial.oracle) (g.O.Oracle.state l.oracle) None;
  can : g.O.Oracle.can_settle l.oracle;
}

abbrev pub decreases-loop-oracle : goal.decreases-loop-oracle
decreases-loop-oracle g l = length (g.S.Chunks.left l.suite)
