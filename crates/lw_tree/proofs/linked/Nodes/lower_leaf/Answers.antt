use Rattle.std.proofs.Common.{List, sym, subst}
use Rattle.lw_tree.specs.Tree.{node_at, IsLive}
use Rattle.lw_tree.specs.bodies.Nodes.{NodeList, AreLinked}
use Rattle.lw_tree.specs.declared.nodes.Node.{Node}
use Rattle.lw_tree.proofs.LinkLemmas.{lowered_linked}
use Rattle.lw_tree.proofs.NodeLemmas.{live_within}
use Rattle.lw_tree.proofs.linked.Nodes.lower_leaf.Goals as goal

pub lower-requires : goal.lower-requires
lower-requires c = live_within c.self.inside.nodes.items c.args.leaf (subst (λ (n : NodeList). IsLive (node_at n.items c.args.leaf).content) (sym c.self.view_is) c.requires)

pub invariant_of-self : goal.invariant_of-self
invariant_of-self c =
    let s = c.self.inside in
    let live : IsLive (node_at s.nodes.items c.args.leaf).content = subst (λ (n : NodeList). IsLive (node_at n.items c.args.leaf).content) (sym c.self.view_is) c.requires in
    subst (λ (n : List Node). AreLinked n s.children) (sym c.lower.ensures.items) (lowered_linked s.nodes.items s.children c.args.leaf c.args.word c.self.invariant live)
