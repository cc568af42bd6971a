use Rattle.std.proofs.Common.{rules, ◌<◌, ℕ, List, length, get_or, ap, subst, sym}
use Rattle.std.specs.Bool.{OnFalse}
use Rattle.lw_separate.specs.bodies.Classes.{AllEqual, RefinesBy}
use Rattle.lw_separate.proofs.ClassLemmas.{follows_next, follows_done}
use Rattle.lw_separate.proofs.classes.refine.Goals as goal

pub loop-x-preserved : goal.loop-x-preserved
loop-x-preserved c =
    let h = c.loop-x.invariant in
    let lt : c.loop-x.x-index < length c.args.w.now = search rules in
    record {
      follows = follows_next c.args.m.now.inputs c.args.m.now.rows _ c.args.w.now c.args.classes.now.items c.loop-x.x-index _ c.column_of.result.now c.loop-x.ends.items c.observe-differ.new.ends.items c.observe-differ.new.outputs.items c.as_slice.result.now c.loop-x.classes.items c.split.new.classes.items c.in_ok-ends.ensures.complete.machine c.requires.letters lt (ap (λ (l : List ℕ). get_or l c.loop-x.x-index 0) c.as_slice-x-items.ensures) c.column_of.ensures h.follows c.observe-differ.ensures.observes c.as_slice.ensures.value c.split.ensures;
      long = search rules;
    }

pub returns : goal.returns
returns c =
    subst (λ (n : ℕ). RefinesBy c.args.m.now.rows n c.args.w.now c.args.classes.now.items c.loop-x.classes.items) c.from-first.ensures
    (follows_done c.args.m.now.rows _ c.args.w.now c.args.classes.now.items c.loop-x.x-index c.loop-x.ends.items c.loop-x.classes.items (search rules) c.loop-x.invariant.follows)

pub split-requires-clause-equal : goal.split-requires-clause-equal
split-requires-clause-equal c =
    subst (λ (l : List ℕ). OnFalse c.observe-differ.result (AllEqual c.from-first.result (length l) l)) (sym c.as_slice.ensures.value)
    (subst (λ (n : ℕ). OnFalse c.observe-differ.result (AllEqual c.from-first.result n c.observe-differ.new.outputs.items)) (sym c.observe-differ.ensures.observes.kept) c.observe-differ.ensures.equal)
