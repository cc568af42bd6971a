use Rattle.std.proofs.Common.{None, ◌-◌}
use Rattle.lw_words.specs.Word.{answers_of}
use Rattle.lw_cache.specs.Settling.{Leaves}
use Rattle.lw_cex.specs.Probe.{AsksProbes}
use Rattle.lw_cex.specs.bodies.Search.{IsBetween, SearchesOn}
use Rattle.lw_cex.proofs.search.breakpoint.Given as goal

abbrev pub invariant-loop-high : goal.invariant-loop-high
invariant-loop-high g l = record {
  between : IsBetween l.model.rows (answers_of (g.O.Oracle.state l.oracle).kept) l.access l.word l.low l.high;
  asks : AsksProbes l.model.rows l.access l.word (g.O.Oracle.state l.initial.oracle).kept (g.O.Oracle.state l.oracle).kept;
  plainly : SearchesOn l.model.rows l.access l.word l.low l.high (g.O.Oracle.state l.initial.oracle) (g.O.Oracle.state l.oracle);
  leaves : Leaves (g.O.Oracle.state l.initial.oracle) (g.O.Oracle.state l.oracle) None;
  can : g.O.Oracle.can_settle l.oracle;
}

abbrev pub decreases-loop-high : goal.decreases-loop-high
decreases-loop-high g l = l.high - l.low
