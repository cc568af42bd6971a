use Rattle.std.proofs.Common.{◌≡◌, ℕ, List, [], length, sym, subst}
use Rattle.lw_words.specs.Word.{answers_of}
use Rattle.lw_tree.specs.Tree.{TreeState, IsTree}
use Rattle.lw_tree.specs.bodies.Sprouts.{CanPart, replaced_root}
use Rattle.lw_tree.specs.declared.nodes.Node.{Node}
use Rattle.lw_tree.proofs.ClearedLemmas.{replaced_long, replaced_clears, block_inside, base_open, root_can}
use Rattle.lw_tree.proofs.tree.DiscriminationTree.sprout.Goals as goal

pub part-requires-clause-can : goal.part-requires-clause-can
part-requires-clause-can c =
    let u : TreeState = c.args.self.now in
    let ks = answers_of c.args.cache.now.kept in
    let r = c.args.root in
    let word = c.args.word.now in
    let marks = c.args.below.now in
    let g : IsTree u = subst (λ (v : TreeState). IsTree v) c.self.view_is c.self.invariant.tree in
    let base : List Node = replaced_root u.nodes r word marks in
    let clear = replaced_clears u.nodes r word marks (block_inside ks u r word c.requires.may) in
    subst (λ (l : List ℕ). CanPart ks u.access l r word) (sym c.in_ok-lifted_leaves.ensures) (root_can ks u r word marks base g c.requires.may c.requires.marks c.requires.each clear)

pub grow-requires-clause-sprout : goal.grow-requires-clause-sprout
grow-requires-clause-sprout c =
    let u : TreeState = c.args.self.now in
    let ks = answers_of c.args.cache.now.kept in
    let r = c.args.root in
    let word = c.args.word.now in
    let marks = c.args.below.now in
    let g : IsTree u = subst (λ (v : TreeState). IsTree v) c.self.view_is c.self.invariant.tree in
    let base : List Node = replaced_root u.nodes r word marks in
    let clear = replaced_clears u.nodes r word marks (block_inside ks u r word c.requires.may) in
    let long : length base ≡ length u.nodes = replaced_long u.nodes r word marks in
    let none : c.new.result.items ≡ [] = c.new.ensures.items in
    (base, long, c.in_ok-part.ensures.grown base (length u.nodes) long (base_open ks u r word marks base g c.requires.may c.requires.marks c.requires.each clear c.requires.read long c.new.result.items c.in_ok-lifted_leaves.field-0.items none c.in_ok-lifted_leaves.ensures))

pub returns-clause-grown : goal.returns-clause-grown
returns-clause-grown c base long clear =
    let u : TreeState = c.args.self.now in
    let ks = answers_of c.args.cache.now.kept in
    let r = c.args.root in
    let word = c.args.word.now in
    let marks = c.args.below.now in
    let g : IsTree u = subst (λ (v : TreeState). IsTree v) c.self.view_is c.self.invariant.tree in
    let none : c.new.result.items ≡ [] = c.new.ensures.items in
    let opened = base_open ks u r word marks base g c.requires.may c.requires.marks c.requires.each clear c.requires.read long c.new.result.items c.in_ok-lifted_leaves.field-0.items none c.in_ok-lifted_leaves.ensures in
    c.in_ok-grow.ensures.grown base long (c.in_ok-part.ensures.grown base (length u.nodes) long opened)
