use Rattle.std.proofs.Common.{◌<◌, length}
use Rattle.lw_separate.specs.bodies.Searched.{Searched}
use Rattle.lw_separate.proofs.access.expand.Given as goal

abbrev pub invariant-loop-x : goal.invariant-loop-x
invariant-loop-x l = record {
  so_far : Searched l.m l.s l.i l.x;
  found : l.i < length l.s.words.items;
}
