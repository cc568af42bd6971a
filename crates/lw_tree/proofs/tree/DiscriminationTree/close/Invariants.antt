use Rattle.std.proofs.Common.{None}
use Rattle.lw_words.specs.Word.{answers_of}
use Rattle.lw_cache.specs.Settling.{GainsOnly, Leaves}
use Rattle.lw_tree.specs.Grown.{HasGrown, IsSifted, KeepsTree}
use Rattle.lw_tree.proofs.MeasureLemmas.{measure}
use Rattle.lw_tree.proofs.tree.DiscriminationTree.close.Given as goal

abbrev pub invariant-loop : goal.invariant-loop
invariant-loop g l = record {
  grown : HasGrown (answers_of (g.O.Oracle.state l.oracle).kept) l.fn.self l.self;
  keeps : KeepsTree l.fn.self l.self;
  asks : GainsOnly (IsSifted l.self) (g.O.Oracle.state l.fn.oracle).kept (g.O.Oracle.state l.oracle).kept;
  leaves : Leaves (g.O.Oracle.state l.fn.oracle) (g.O.Oracle.state l.oracle) None;
  can : g.O.Oracle.can_settle l.oracle;
}

abbrev pub decreases-loop : goal.decreases-loop
decreases-loop g l = measure l.self
