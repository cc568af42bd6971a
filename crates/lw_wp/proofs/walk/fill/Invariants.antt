use Rattle.std.proofs.Common.{◌-◌}
use Rattle.lw_wp.proofs.ChunkLemmas.{Filled}
use Rattle.lw_wp.proofs.walk.fill.Given as goal

abbrev pub invariant-loop-index : goal.invariant-loop-index
invariant-loop-index l = Filled l.parts l.fn.place l.index l.cursor l.chunk.items

abbrev pub decreases-loop-index : goal.decreases-loop-index
decreases-loop-index l = 512 - l.index
