use Rattle.std.proofs.Common.{rules, ◌≡◌, ◌<◌, length, ap, sym, ◌∙◌, subst}
use Rattle.lw_tree.specs.Tree.{TreeState, IsClosed, node_at}
use Rattle.lw_tree.specs.bodies.Nodes.{tree_of}
use Rattle.lw_tree.specs.bodies.Transitions.{IsTransition, IsStep, place_by}
use Rattle.lw_tree.specs.declared.nodes.Content.TheVariants.{State}
use Rattle.lw_tree.specs.declared.nodes.Node.{Node}
use Rattle.lw_tree.specs.declared.transitions.Place.{Place}
use Rattle.lw_tree.proofs.FieldLemmas.{found_place, found_node}
use Rattle.lw_tree.proofs.MachineLemmas.{closed_state, step_to}
use Rattle.lw_tree.proofs.tree.DiscriminationTree.step_by.Goals as goal

pub get-requires : goal.get-requires
get-requires c =
    let s = c.self.inside in
    let t : TreeState = tree_of s.inputs s.outputs s.most s.access s.nodes.items s.leaves.items s.places.items s.spanning.items s.refinements in
    let from : IsTransition t c.args.edge = subst (λ (u : TreeState). IsTransition u c.args.edge) (sym c.self.view_is) c.requires.edge in
    let inside : c.index-place.result.now.node < length s.nodes.items = found_node t c.self.invariant.tree c.args.edge c.number.result c.index-place.result.now from c.number.ensures c.index-place.ensures in
    search (rules, inside)

pub unreachable-requires-in_default-content : goal.unreachable-requires-in_default-content
unreachable-requires-in_default-content c =
    let s = c.self.inside in
    let t : TreeState = tree_of s.inputs s.outputs s.most s.access s.nodes.items s.leaves.items s.places.items s.spanning.items s.refinements in
    let from : IsTransition t c.args.edge = subst (λ (u : TreeState). IsTransition u c.args.edge) (sym c.self.view_is) c.requires.edge in
    let closed : IsClosed t = subst (λ (u : TreeState). IsClosed u) (sym c.self.view_is) c.requires.closed in
    let p = c.index-place.result.now in
    let place : p ≡ place_by t c.args.edge = found_place t c.self.invariant.tree c.args.edge c.number.result p from c.number.ensures c.index-place.ensures in
    let node : c.get.result.now ≡ node_at t.nodes p.node = c.get.ensures in
    let state = closed_state t c.self.invariant.tree closed c.args.edge.state c.args.edge.letter from.0 from.1 in
    c.in_default-content.not-State state.0 (ap (λ (m : Node). m.content) node ∙ (ap (λ (q : Place). (node_at t.nodes q.node).content) place ∙ state.1))

pub returns : goal.returns
returns c =
    let s = c.self.inside in
    let t : TreeState = tree_of s.inputs s.outputs s.most s.access s.nodes.items s.leaves.items s.places.items s.spanning.items s.refinements in
    let from : IsTransition t c.args.edge = subst (λ (u : TreeState). IsTransition u c.args.edge) (sym c.self.view_is) c.requires.edge in
    let closed : IsClosed t = subst (λ (u : TreeState). IsClosed u) (sym c.self.view_is) c.requires.closed in
    let p = c.index-place.result.now in
    let place : p ≡ place_by t c.args.edge = found_place t c.self.invariant.tree c.args.edge c.number.result p from c.number.ensures c.index-place.ensures in
    let node : c.get.result.now ≡ node_at t.nodes p.node = c.get.ensures in
    let content : (node_at t.nodes (place_by t c.args.edge).node).content ≡ State c.in-State.target = ap (λ (q : Place). (node_at t.nodes q.node).content) (sym place) ∙ (ap (λ (m : Node). m.content) (sym node) ∙ c.in-State.is) in
    subst (λ (u : TreeState). IsStep u c.args.edge.state c.args.edge.letter c.in-State.target c.in-Some.output) c.self.view_is
    (step_to t c.self.invariant.tree closed c.args.edge.state c.args.edge.letter from.0 from.1 c.in-State.target c.in-Some.output content (ap (λ (q : Place). q.output) (sym place) ∙ c.in-Some.is))
