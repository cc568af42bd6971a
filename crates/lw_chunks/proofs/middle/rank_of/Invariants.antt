use Rattle.std.proofs.Common.{◌-◌}
use Rattle.lw_chunks.proofs.MiddleLemmas.{Looked}
use Rattle.lw_chunks.proofs.middle.rank_of.Given as goal

abbrev pub invariant-loop-rank : goal.invariant-loop-rank
invariant-loop-rank l = Looked l.inputs l.longest l.fn.number l.rank.letters l.rank.number l.rank.count

abbrev pub decreases-loop-rank : goal.decreases-loop-rank
decreases-loop-rank l = l.longest - l.rank.letters
