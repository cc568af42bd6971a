use Rattle.std.proofs.Common.{rules, ◌+◌, ◌*◌, ◌∙◌, true, Some, ◌≡◌, ◌<◌, ℕ, length, set, sym, ap, subst, arith}
use Rattle.lw_links.specs.Owners.{owner_of}
use Rattle.lw_tree.specs.Tree.{TreeState, IsTree, IsLive, node_at}
use Rattle.lw_tree.specs.bodies.Arrivals.{AreArrivals, Filed, list_of_content}
use Rattle.lw_tree.specs.declared.nodes.Node.{Node}
use Rattle.lw_tree.specs.declared.nodes.Content.{Content}
use Rattle.lw_tree.specs.bodies.Nodes.{tree_of}
use Rattle.lw_tree.specs.bodies.Steps.{placed, with_place}
use Rattle.lw_tree.specs.bodies.Transitions.{IsTransition, is_open_by}
use Rattle.lw_tree.proofs.FieldLemmas.{placed_is_tree}
use Rattle.lw_tree.proofs.ListedLemmas.{cells_few, cell_below, content_below, open_owner, placed_listed}
use Rattle.lw_tree.proofs.NodeLemmas.{live_within}
use Rattle.lw_tree.proofs.ShapeLemmas.{shape_of, place_inside}
use Rattle.lw_tree.proofs.tree.DiscriminationTree.place.Goals as goal

pub index_mut-requires : goal.index_mut-requires
index_mut-requires c =
    let s = c.self.inside in
    let t : TreeState = tree_of s.inputs s.outputs s.most s.access s.nodes.items s.leaves.items s.places.items s.spanning.items s.refinements in
    let edge = c.args.edge in
    let from : IsTransition t edge = subst (λ (v : TreeState). IsTransition v edge) (sym c.self.view_is) c.requires.edge in
    let inside : c.number-number.result < length s.places.items = subst (λ (k : ℕ). k < length s.places.items) (sym c.number-number.ensures) (place_inside t (shape_of t c.self.invariant.tree) edge from) in
    omega (arith, inside, s.places.ok.0)

pub returns-clause-value : goal.returns-clause-value
returns-clause-value c =
    let s = c.self.inside in
    let edge = c.args.edge in
    let tree : ℕ → TreeState = λ k. tree_of s.inputs s.outputs s.most s.access s.nodes.items s.leaves.items (set s.places.items k (placed c.args.output c.args.node)) s.spanning.items s.refinements in
    subst (λ (v : TreeState). tree c.number-number.result ≡ with_place v edge c.args.output c.args.node) c.self.view_is (ap tree c.number-number.ensures)

pub returns-clause-tree : goal.returns-clause-tree
returns-clause-tree c =
    let u : TreeState = c.args.self.now in
    let g : IsTree u = subst (λ (v : TreeState). IsTree v) c.self.view_is c.self.invariant.tree in
    subst (λ (v : TreeState). IsTree v) (sym (returns-clause-value c)) (placed_is_tree u c.args.edge c.args.output c.args.node g c.requires.edge c.requires.«open» c.requires.output c.requires.node)

pub get-requires : goal.get-requires
get-requires c =
    let s = c.self.inside in
    live_within s.nodes.items c.args.node (subst (λ (v : TreeState). IsLive (node_at v.nodes c.args.node).content) (sym c.self.view_is) c.requires.node)

pub arrive-requires : goal.arrive-requires
arrive-requires c =
    let s = c.self.inside in
    let t : TreeState = tree_of s.inputs s.outputs s.most s.access s.nodes.items s.leaves.items s.places.items s.spanning.items s.refinements in
    let g = c.self.invariant.tree in
    let a = c.self.invariant.arrivals in
    let edge = c.args.edge in
    let from : IsTransition t edge = subst (λ (v : TreeState). IsTransition v edge) (sym c.self.view_is) c.requires.edge in
    let stands : is_open_by t edge ≡ true = subst (λ (v : TreeState). is_open_by v edge ≡ true) (sym c.self.view_is) c.requires.«open» in
    let number : c.number-number.result ≡ edge.state * t.inputs + edge.letter = c.number-number.ensures in
    let at : c.get.result.now ≡ node_at t.nodes c.args.node = search rules in
    let content : c.get.result.now.content ≡ (node_at t.nodes c.args.node).content = ap (λ (n : Node). n.content) at in
    record {
      was = subst (λ (k : ℕ). owner_of s.arrivals k ≡ Some 0) (sym number) (open_owner t s.arrivals g a edge from stands);
      few = cells_few t s.arrivals g a;
      within = cell_below t s.arrivals g a c.number-number.result (subst (λ (k : ℕ). k < length t.places) (sym number) (place_inside t (shape_of t g) edge from));
      list = subst (λ (k : Content). list_of_content k < length s.arrivals.lists) (sym content) (content_below t s.arrivals g a c.args.node);
    }

pub invariant_of-self : goal.invariant_of-self
invariant_of-self c =
    let s = c.self.inside in
    let t : TreeState = tree_of s.inputs s.outputs s.most s.access s.nodes.items s.leaves.items s.places.items s.spanning.items s.refinements in
    let edge = c.args.edge in
    let from : IsTransition t edge = subst (λ (v : TreeState). IsTransition v edge) (sym c.self.view_is) c.requires.edge in
    let number : c.number-number.result ≡ edge.state * t.inputs + edge.letter = c.number-number.ensures in
    let at : c.get.result.now ≡ node_at t.nodes c.args.node = search rules in
    let content : c.get.result.now.content ≡ (node_at t.nodes c.args.node).content = ap (λ (n : Node). n.content) at in
    let filed : Filed s.arrivals c.arrive.new.self (edge.state * t.inputs + edge.letter) (list_of_content (node_at t.nodes c.args.node).content) =
    subst (λ (k : Content). Filed s.arrivals c.arrive.new.self (edge.state * t.inputs + edge.letter) (list_of_content k)) content (subst (λ (k : ℕ). Filed s.arrivals c.arrive.new.self k (list_of_content c.get.result.now.content)) number c.arrive.ensures) in
    record {
      tree = returns-clause-tree c;
      arrivals = subst (λ (u : TreeState). AreArrivals u c.arrive.new.self) (sym (returns-clause-value c ∙ ap (λ (v : TreeState). with_place v edge c.args.output c.args.node) (sym c.self.view_is)))
          (placed_listed t s.arrivals c.arrive.new.self edge c.args.output c.args.node c.self.invariant.tree c.self.invariant.arrivals from filed);
    }
