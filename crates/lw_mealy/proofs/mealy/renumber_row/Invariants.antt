use Rattle.std.proofs.Common.{◌≡◌, ◌++◌, take, drop}
use Rattle.lw_mealy.specs.Renumbering.{renumbered_cells}
use Rattle.lw_mealy.proofs.mealy.renumber_row.Given as goal

abbrev pub invariant-loop-cell : goal.invariant-loop-cell
invariant-loop-cell l = l.row ≡ renumbered_cells l.to (take l.cell-index l.fn.row) ++ drop l.cell-index l.fn.row
