use Rattle.lw_suite.specs.bodies.Places.{number_of}
use Rattle.lw_suite.proofs.PlaceLemmas.{Filled}
use Rattle.lw_suite.proofs.suite.fill.Given as goal

abbrev pub invariant-loop-index : goal.invariant-loop-index
invariant-loop-index l = Filled l.parts (number_of l.parts l.fn.place) l.index l.at l.front l.chunk.items
