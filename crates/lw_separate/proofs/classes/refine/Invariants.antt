use Rattle.std.proofs.Common.{◌≡◌, length, drop}
use Rattle.lw_separate.proofs.ClassLemmas.{Follows}
use Rattle.lw_separate.proofs.classes.refine.Given as goal

abbrev pub invariant-loop-x : goal.invariant-loop-x
invariant-loop-x l = record {
  follows : Follows l.m.rows l.first l.w l.fn.classes.items (drop l.x-index l.w) l.ends.items l.classes.items;
  long : length l.outputs.items ≡ length l.ends.items;
}
