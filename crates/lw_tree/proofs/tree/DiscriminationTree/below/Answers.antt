use Rattle.std.proofs.Common.{rules, ◌≡◌, ℕ, ◌+◌, Bool, List, [], ◌∷◌, ◌++◌, length, ap, sym, ◌∙◌, subst, subst₂}
use Rattle.std.proofs.lemmas.List.{length-append}
use Rattle.lw_tree.specs.Tree.{TreeState, node_at, IsTree}
use Rattle.lw_tree.specs.bodies.Sprouts.{AreMarks, IsNextMark}
use Rattle.lw_tree.specs.declared.nodes.Node.{Node}
use Rattle.lw_tree.proofs.ClearedLemmas.{next_mark}
use Rattle.lw_tree.proofs.tree.DiscriminationTree.below.Goals as goal

pub loop-number-preserved : goal.loop-number-preserved
loop-number-preserved c =
    let u : TreeState = c.args.self.now in
    let g : IsTree u = subst (λ (v : TreeState). IsTree v) c.self.view_is c.self.invariant.tree in
    let l = c.loop-number in
    let marks = l.below.items in
    let mark = c.is_next_below-is_below.result in
    let node_is : c.get-node.result.now ≡ node_at u.nodes l.number = c.get-node.ensures ∙ ap (λ (v : TreeState). node_at v.nodes l.number) c.self.view_is in
    let told : IsNextMark marks c.args.root l.number (node_at u.nodes l.number) mark = subst₂ (λ (m : List Bool) (n : Node). IsNextMark m c.args.root l.number n mark) c.deref.ensures.value node_is c.is_next_below-is_below.ensures in
    let next : IsNextMark marks c.args.root (length marks) (node_at u.nodes (length marks)) mark = subst (λ (k : ℕ). IsNextMark marks c.args.root k (node_at u.nodes k) mark) (sym l.invariant.size) told in
    let items : c.push.new.self.items ≡ marks ++ mark ∷ [] = search rules in
    record {
      marks = subst (AreMarks (node_at u.nodes) c.args.root) (sym items) (next_mark (node_at u.nodes) g.nodes.branches c.args.root marks mark l.invariant.marks next);
      size = ap (λ (m : List Bool). length m) items ∙ (length-append marks (mark ∷ []) ∙ ap (λ (k : ℕ). k + 1) l.invariant.size);
    }
