use Rattle.lw_table.specs.bodies.Classes.{row_of, InSingles}
use Rattle.lw_table.proofs.classes.Classes.singles.Given as goal

abbrev pub invariant-loop-place : goal.invariant-loop-place
invariant-loop-place l = InSingles l.self (row_of l.self l.class-2) l.count l.place l.class l.outputs.items

abbrev pub decreases-loop-place : goal.decreases-loop-place
decreases-loop-place l = l.place
