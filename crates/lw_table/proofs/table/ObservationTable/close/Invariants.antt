use Rattle.std.proofs.Common.{◌≡◌, ◌≤◌, ◌-◌, length, None}
use Rattle.lw_words.specs.Word.{answers_of}
use Rattle.lw_cache.specs.Settling.{GainsOnly, Leaves}
use Rattle.lw_table.specs.Grown.{HasGrown, IsCellWordOf}
use Rattle.lw_table.specs.bodies.Growing.{AreFull, HaveStates}
use Rattle.lw_table.specs.bodies.Plain.{ClosesOn}
use Rattle.lw_table.proofs.table.ObservationTable.close.Given as goal

abbrev pub invariant-loop-row : goal.invariant-loop-row
invariant-loop-row g l = record {
  grown : HasGrown (answers_of (g.O.Oracle.state l.oracle).kept) l.fn.self l.self;
  full : AreFull l.self;
  states : HaveStates l.self 1 l.from;
  from : l.from ≤ length l.self.cells;
  suffixes : l.self.suffixes ≡ l.fn.self.suffixes;
  refinements : l.self.refinements ≡ l.fn.self.refinements;
  asks : GainsOnly (IsCellWordOf l.self) (g.O.Oracle.state l.fn.oracle).kept (g.O.Oracle.state l.oracle).kept;
  plainly : ClosesOn l.fn.self l.self (g.O.Oracle.state l.fn.oracle) (g.O.Oracle.state l.oracle);
  leaves : Leaves (g.O.Oracle.state l.fn.oracle) (g.O.Oracle.state l.oracle) None;
  can : g.O.Oracle.can_settle l.oracle;
}

abbrev pub decreases-loop-row : goal.decreases-loop-row
decreases-loop-row g l = l.self.most - length l.self.access
