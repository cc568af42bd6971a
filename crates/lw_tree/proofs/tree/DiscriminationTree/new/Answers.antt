use Rattle.std.proofs.Common.{rules, ◌≡◌, sym, subst}
use Rattle.lw_tree.specs.Tree.{TreeState, new_tree}
use Rattle.lw_tree.specs.bodies.Nodes.{tree_of}
use Rattle.lw_tree.specs.bodies.Arrivals.{AreArrivals}
use Rattle.lw_tree.proofs.ListedLemmas.{new_is_listed}
use Rattle.lw_tree.proofs.NewLemmas.{new_vectors}
use Rattle.lw_tree.proofs.tree.DiscriminationTree.new.Goals as goal

pub invariant_of-result : goal.invariant_of-result
invariant_of-result c =
    let a = c.args.inputs in
    let b = c.args.outputs in
    let most = c.args.max_states in
    let same : tree_of a b most c.in_ok-the_empty_word.field-0 c.in_ok-of_root.field-0.items c.in_ok-vec.field-0.items c.in_ok-vec-2.field-0.items c.in_ok-vec-3.field-0.items 0 ≡ new_tree a b most = search rules in
    record {
      tree = new_vectors a b most c.in_ok-the_empty_word.field-0 c.in_ok-of_root.field-0.items c.in_ok-vec.field-0.items c.in_ok-vec-2.field-0.items c.in_ok-vec-3.field-0.items c.requires.inputs c.requires.outputs c.requires.max_states same;
      arrivals = subst (λ (t : TreeState). AreArrivals t c.in_ok-new_arrivals.field-0) (sym same) (new_is_listed a b most c.in_ok-new_arrivals.field-0 c.in_ok-new_arrivals.ensures);
    }

pub returns-clause-tree : goal.returns-clause-tree
returns-clause-tree c = (invariant_of-result c).tree
