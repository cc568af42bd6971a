use Rattle.lw_separate.specs.bodies.Classes.{Refines}
use Rattle.lw_separate.proofs.classes.rename_each.Given as goal

abbrev pub invariant-loop-q : goal.invariant-loop-q
invariant-loop-q l = Refines l.first l.outputs l.q l.fn.classes.items l.classes.items
