use Rattle.std.proofs.Common.{◌+◌, arith}
use Rattle.lw_separate.proofs.ClassLemmas.{classes_from}
use Rattle.lw_separate.proofs.WalkLemmas.{row_done}
use Rattle.lw_separate.proofs.separator_words.add_row.Goals as goal

pub returns-clause-so_far : goal.returns-clause-so_far
returns-clause-so_far c = row_done c.args.m.now.inputs c.args.m.now.rows c.args.p c.loop-q.q c.loop-q.words (omega arith) c.loop-q.invariant.so_far

pub returns-clause-classes : goal.returns-clause-classes
returns-clause-classes c = classes_from c.args.m.now.rows c.args.p (c.args.p + 1) c.loop-q.words c.loop-q.classes.items (omega arith) c.loop-q.invariant.classes
