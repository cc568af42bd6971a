use Rattle.lw_mealy.specs.Machine.{Rows}
use Rattle.lw_tree.specs.Tree.{IsMachineOf, IsLive, node_at}
use Rattle.lw_settle.proofs.BlockLemmas.{IsForkTo}
use Rattle.lw_settle.proofs.parting.fork_of_targets.Given as goal

abbrev pub invariant-loop-member : goal.invariant-loop-member
invariant-loop-member l = record {
  live : IsLive (node_at l.tree.nodes l.fork).content;
  fork : (m : Rows) → IsMachineOf l.tree m → IsForkTo l.tree m l.members l.letter l.one l.member-index l.fork;
}
