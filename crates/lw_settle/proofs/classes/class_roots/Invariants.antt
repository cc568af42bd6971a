use Rattle.lw_settle.specs.bodies.Parting.{AreRootsTo}
use Rattle.lw_settle.proofs.classes.class_roots.Given as goal

abbrev pub invariant-loop-state : goal.invariant-loop-state
invariant-loop-state l = AreRootsTo l.tree l.state l.roots.items
