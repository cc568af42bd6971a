use Rattle.lw_settle.proofs.BlockLemmas.{AreLeastTo}
use Rattle.lw_settle.proofs.classes.least_states.Given as goal

abbrev pub invariant-loop-state : goal.invariant-loop-state
invariant-loop-state l = AreLeastTo l.roots l.state l.known.items l.least.items
