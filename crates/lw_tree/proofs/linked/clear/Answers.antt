use Rattle.std.proofs.Common.{rules, ◌≡◌, ◌+◌, ◌<◌, ◌≤◌, true, false, length, sym, ◌∙◌, subst, arith}
use Rattle.lw_tree.specs.bodies.Sprouts.{mark_at}
use Rattle.lw_tree.proofs.RelinkLemmas.{AreClearedTo, cleared_skip, cleared_next, cleared_all}
use Rattle.lw_tree.proofs.linked.clear.Goals as goal

pub loop-number-preserved-then-not-below-number : goal.loop-number-preserved-then-not-below-number
loop-number-preserved-then-not-below-number c =
    let l = c.loop-number in
    let none : mark_at c.args.below.now l.number ≡ false = search rules in
    record { items = cleared_skip c.args.nodes.now.items c.args.below.now l.number l.nodes.items l.invariant.items none; capacity = l.invariant.capacity }

pub loop-number-preserved : goal.loop-number-preserved
loop-number-preserved c =
    let l = c.loop-number in
    let mark : mark_at c.args.below.now l.number ≡ true = search rules in
    let lt : l.number < length c.args.below.now = search rules in
    let size = l.invariant.items.size in
    let each = c.requires in
    let inside : l.number < length l.nodes.items = omega (arith, lt, size, each) in
    record {
      items = subst (AreClearedTo c.args.nodes.now.items c.args.below.now (l.number + 1)) (sym c.take_away.ensures.items) (cleared_next c.args.nodes.now.items c.args.below.now l.number l.nodes.items l.invariant.items mark inside);
      capacity = c.take_away.ensures.capacity ∙ l.invariant.capacity;
    }

pub returns-clause-items : goal.returns-clause-items
returns-clause-items c =
    let l = c.loop-number in
    let past : length c.args.below.now ≤ l.number = search rules in
    let each = c.requires in
    cleared_all c.args.nodes.now.items c.args.below.now l.number l.nodes.items l.invariant.items (omega (arith, past, each))
