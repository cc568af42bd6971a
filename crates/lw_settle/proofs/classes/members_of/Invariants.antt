use Rattle.lw_settle.proofs.BlockLemmas.{AreFound}
use Rattle.lw_settle.proofs.classes.members_of.Given as goal

abbrev pub invariant-loop-state : goal.invariant-loop-state
invariant-loop-state l = AreFound l.roots l.root l.state l.members.items
