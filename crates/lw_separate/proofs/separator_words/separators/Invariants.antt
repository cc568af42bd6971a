use Rattle.std.proofs.Common.{◌+◌}
use Rattle.lw_separate.specs.bodies.Classes.{AreClasses}
use Rattle.lw_separate.specs.bodies.Walk.{SeparatesUpTo}
use Rattle.lw_separate.proofs.separator_words.separators.Given as goal

abbrev pub invariant-loop-p : goal.invariant-loop-p
invariant-loop-p l = record {
  so_far : SeparatesUpTo l.m.inputs l.m.rows (l.p, l.p + 1) l.words;
  classes : AreClasses l.m.rows l.p l.words l.classes.items;
}
