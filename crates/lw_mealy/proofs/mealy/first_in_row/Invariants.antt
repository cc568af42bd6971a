use Rattle.std.specs.List.{AllWithin}
use Rattle.lw_mealy.specs.CellHalf.{IsBelow}
use Rattle.lw_mealy.proofs.mealy.first_in_row.Given as goal

abbrev pub invariant-loop-letter : goal.invariant-loop-letter
invariant-loop-letter l = AllWithin (IsBelow l.half l.bound) l.row 0 l.letter
