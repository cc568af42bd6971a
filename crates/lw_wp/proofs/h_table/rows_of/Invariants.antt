use Rattle.std.proofs.Common.{map}
use Rattle.lw_wp.proofs.HTableLemmas.{RowsUpTo}
use Rattle.lw_wp.proofs.h_table.rows_of.Given as goal

abbrev pub invariant-loop-letters : goal.invariant-loop-letters
invariant-loop-letters l = RowsUpTo l.m.inputs l.m.rows l.by.words (map (λ numbers. numbers.items) l.own) l.q l._letters l.marks.items l.reached.items (map (λ row. row.items) l.rows.items)
