use Rattle.std.proofs.Common.{◌<◌, length}
use Rattle.lw_compare.specs.bodies.Walk.{Walked}
use Rattle.lw_compare.proofs.walk.expand.Given as goal

abbrev pub invariant-loop-x : goal.invariant-loop-x
invariant-loop-x l = record {
  walked : Walked l.first l.second l.walk l.i l.x;
  found : l.i < length l.walk.nodes.items;
}
