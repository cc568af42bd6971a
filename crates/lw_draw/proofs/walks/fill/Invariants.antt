use Rattle.lw_draw.proofs.WalkLemmas.{Filled}
use Rattle.lw_draw.proofs.walks.fill.Given as goal

abbrev pub invariant-loop-index : goal.invariant-loop-index
invariant-loop-index l = Filled l.parts l.given l.index l.random l.chunk.items
