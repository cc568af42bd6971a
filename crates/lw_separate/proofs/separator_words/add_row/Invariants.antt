use Rattle.lw_separate.specs.bodies.Classes.{AreClasses}
use Rattle.lw_separate.specs.bodies.Walk.{SeparatesUpTo}
use Rattle.lw_separate.proofs.separator_words.add_row.Given as goal

abbrev pub invariant-loop-q : goal.invariant-loop-q
invariant-loop-q l = record {
  so_far : SeparatesUpTo l.m.inputs l.m.rows (l.p, l.q) l.words;
  classes : AreClasses l.m.rows l.p l.words l.classes.items;
}
