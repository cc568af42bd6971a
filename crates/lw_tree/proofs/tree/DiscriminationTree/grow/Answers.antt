use Rattle.std.proofs.Common.{rules, ◌≡◌, ◌+◌, ◌<◌, List, ◌++◌, length, subst, arith}
use Rattle.lw_words.specs.Word.{answers_of}
use Rattle.lw_tree.specs.Tree.{TreeState}
use Rattle.lw_tree.specs.bodies.Sprouts.{IsSprout}
use Rattle.lw_tree.specs.declared.nodes.Node.{Node}
use Rattle.lw_tree.proofs.tree.DiscriminationTree.grow.Goals as goal

pub loop-place-preserved : goal.loop-place-preserved
loop-place-preserved c =
    let u : TreeState = c.args.self.now in
    let l = c.loop-place in
    let i = l.invariant in
    let ks = answers_of c.args.cache.now.kept in
    let step : (base : List Node) → length base ≡ length u.nodes → IsSprout ks u.inputs u.access (length u.nodes) (base ++ l.sprout.nodes.items) l.sprout.leaves.items (length u.nodes + l.place)
    → IsSprout ks u.inputs u.access (length u.nodes) (base ++ c.grow_node.new.sprout.nodes.items) c.grow_node.new.sprout.leaves.items (length u.nodes + (l.place + 1)) =
    λ base long s. subst (IsSprout ks u.inputs u.access (length u.nodes) (base ++ c.grow_node.new.sprout.nodes.items) c.grow_node.new.sprout.leaves.items) (omega arith) (c.in_ok-grow_node.ensures.grown base long s) in
    let more = c.in_ok-grow_node.ensures.longer in
    let within : l.place < length l.sprout.nodes.items = search (rules, i.within) in
    record {
      some = (i.some.0, i.some.1, step i.some.0 i.some.1 i.some.2);
      within = omega (arith, within, more);
      grown = λ base long s. step base long (i.grown base long s);
    }
