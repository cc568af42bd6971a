use Rattle.std.proofs.Common.{◌+◌, ℕ, List, sym, subst, arith}
use Rattle.lw_separate.specs.bodies.Classes.{AreClasses, OwnClasses}
use Rattle.lw_separate.specs.bodies.Walk.{SeparatesUpTo}
use Rattle.lw_separate.proofs.WalkLemmas.{walk_start, walk_done, walk_apart}
use Rattle.lw_separate.proofs.CrowdLemmas.{fewer_words}
use Rattle.lw_separate.proofs.separator_words.separators.Goals as goal

pub loop-p-init : goal.loop-p-init
loop-p-init c = record {
  so_far = subst (λ (l : List (List ℕ)). SeparatesUpTo c.args.m.now.inputs c.args.m.now.rows (0, 1) l) (sym c.new-words.ensures) (walk_start c.args.m.now.inputs c.args.m.now.rows);
  classes = subst (λ (l : List (List ℕ)). AreClasses c.args.m.now.rows 0 l c.in_ok-classes.classes.items) (sym c.new-words.ensures) c.in_ok-classes.ensures;
}

pub returns-clause-few : goal.returns-clause-few
returns-clause-few c = fewer_words c.args.m.now.inputs c.args.m.now.rows (c.loop-p.p, c.loop-p.p + 1) c.loop-p.words c.loop-p.invariant.so_far (omega arith)

pub returns-clause-separators : goal.returns-clause-separators
returns-clause-separators c = walk_done c.args.m.now.inputs c.args.m.now.rows c.loop-p.p c.loop-p.words (omega arith) c.loop-p.invariant.so_far

pub returns-then-all_apart-clause-separators : goal.returns-then-all_apart-clause-separators
returns-then-all_apart-clause-separators c =
    let h = c.loop-p.invariant in
    let own : OwnClasses c.loop-p.p c.loop-p.classes.items = subst (λ (l : List ℕ). OwnClasses c.loop-p.p l) c.as_slice.ensures.value c.if-all_apart.ensures in
    walk_apart c.args.m.now.inputs c.args.m.now.rows c.loop-p.p c.loop-p.words c.loop-p.classes.items h.so_far h.classes own

pub returns-then-all_apart-clause-few : goal.returns-then-all_apart-clause-few
returns-then-all_apart-clause-few c = fewer_words c.args.m.now.inputs c.args.m.now.rows (c.loop-p.p, c.loop-p.p + 1) c.loop-p.words c.loop-p.invariant.so_far (omega arith)
