use Rattle.std.proofs.Common.{◌≡◌, ◌<◌, ℕ, length, sym, subst, arith}
use Rattle.lw_tree.specs.Tree.{TreeState, node_at, IsLive}
use Rattle.lw_tree.specs.bodies.Nodes.{tree_of}
use Rattle.lw_tree.specs.bodies.Transitions.{IsTransition, place_by}
use Rattle.lw_tree.proofs.FieldLemmas.{found_place, found_live, found_node}
use Rattle.lw_tree.proofs.ShapeLemmas.{shape_of, place_inside}
use Rattle.lw_tree.proofs.tree.DiscriminationTree.place_of.Goals as goal

pub index-requires : goal.index-requires
index-requires c =
    let s = c.self.inside in
    let t : TreeState = tree_of s.inputs s.outputs s.most s.access s.nodes.items s.leaves.items s.places.items s.spanning.items s.refinements in
    let edge = c.args.edge in
    let from : IsTransition t edge = subst (λ (v : TreeState). IsTransition v edge) (sym c.self.view_is) c.requires.edge in
    let inside : c.number.result < length s.places.items = subst (λ (k : ℕ). k < length s.places.items) (sym c.number.ensures) (place_inside t (shape_of t c.self.invariant.tree) edge from) in
    omega (arith, inside, s.places.ok.0)

pub returns : goal.returns
returns c =
    let s = c.self.inside in
    let t : TreeState = tree_of s.inputs s.outputs s.most s.access s.nodes.items s.leaves.items s.places.items s.spanning.items s.refinements in
    let edge = c.args.edge in
    let from : IsTransition t edge = subst (λ (v : TreeState). IsTransition v edge) (sym c.self.view_is) c.requires.edge in
    let p = c.index.result.now in
    record {
      value = subst (λ (v : TreeState). p ≡ place_by v edge) c.self.view_is (found_place t c.self.invariant.tree edge c.number.result p from c.number.ensures c.index.ensures);
      live = subst (λ (v : TreeState). IsLive (node_at v.nodes p.node).content) c.self.view_is (found_live t c.self.invariant.tree edge c.number.result p from c.number.ensures c.index.ensures);
      within = subst (λ (v : TreeState). p.node < length v.nodes) c.self.view_is (found_node t c.self.invariant.tree edge c.number.result p from c.number.ensures c.index.ensures);
    }
