use Rattle.std.proofs.Common.{◌≡◌, ◌<◌, ℕ, length, get_or}
use Rattle.lw_separate.specs.bodies.Renaming.{renamed}
use Rattle.lw_separate.proofs.rename.renamed_row.Given as goal

abbrev pub invariant-loop-x : goal.invariant-loop-x
invariant-loop-x l = record {
  long : length l.row.items ≡ l.x;
  cells : (y : ℕ) → y < length l.row.items → get_or l.row.items y (0, 0) ≡ renamed l.m.rows l.names l.q y;
}
