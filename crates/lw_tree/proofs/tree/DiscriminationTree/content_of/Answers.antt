use Rattle.std.proofs.Common.{◌≡◌, ◌<◌, length, ap, sym, ◌∙◌, subst}
use Rattle.lw_tree.specs.Tree.{TreeState, node_at, IsTree}
use Rattle.lw_tree.specs.bodies.Transitions.{place_by, content_by}
use Rattle.lw_tree.specs.declared.nodes.Node.{Node}
use Rattle.lw_tree.specs.declared.transitions.Place.{Place}
use Rattle.lw_tree.proofs.ListingLemmas.{letters_of}
use Rattle.lw_tree.proofs.tree.DiscriminationTree.content_of.Goals as goal

pub get-requires : goal.get-requires
get-requires c =
    let s = c.self.inside in
    subst (λ (v : TreeState). c.place_of.result.node < length v.nodes) (sym c.self.view_is) c.place_of.ensures.within

pub returns : goal.returns
returns c =
    let u : TreeState = c.args.self.now in
    let g : IsTree u = subst (λ (v : TreeState). IsTree v) c.self.view_is c.self.invariant.tree in
    let node : c.get.result.now ≡ node_at u.nodes c.place_of.result.node = subst (λ (v : TreeState). c.get.result.now ≡ node_at v.nodes c.place_of.result.node) c.self.view_is c.get.ensures in
    record {
      value = ap (λ (m : Node). m.content) node ∙ ap (λ (p : Place). (node_at u.nodes p.node).content) c.place_of.ensures.value;
      letters = letters_of u.inputs (content_by u c.args.edge) (λ inner. (g.nodes.words (place_by u c.args.edge).node inner).0);
      tree = g;
    }
