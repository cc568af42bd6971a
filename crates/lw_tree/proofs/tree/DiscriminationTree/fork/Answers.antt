use Rattle.std.proofs.Common.{rules, ◌≡◌, ℕ, ◌<◌, ap, sym, subst}
use Rattle.lw_tree.specs.Tree.{TreeState, node_at, IsLive}
use Rattle.lw_tree.specs.bodies.Sprouts.{AreBranched}
use Rattle.lw_tree.specs.declared.nodes.Node.{Node}
use Rattle.lw_tree.proofs.ClassLemmas.{IsForking, fork_one, fork_other}
use Rattle.lw_tree.proofs.WayLemmas.{joined}
use Rattle.lw_tree.proofs.tree.DiscriminationTree.fork.Goals as goal

pub loop-here-preserved-then-here-there : goal.loop-here-preserved-then-here-there
loop-here-preserved-then-here-there c =
    let s = c.self.inside in
    let node : ℕ → Node = node_at s.nodes.items in
    let g : AreBranched s.inputs node = joined s.inputs node c.self.invariant.tree.nodes in
    let l = c.loop-here in
    let other_live : IsLive (node c.args.other).content = subst (λ (u : TreeState). IsLive (node_at u.nodes c.args.other).content) (sym c.self.view_is) c.requires.other in
    let live : IsLive (node c.args.one).content = subst (λ (u : TreeState). IsLive (node_at u.nodes c.args.one).content) (sym c.self.view_is) c.requires.one in
    let up : c.get.result.now.parent ≡ (node l.there).parent = ap (λ (m : Node). m.parent) c.get.ensures in
    subst (λ (p : ℕ). IsForking node c.args.one c.args.other l.here p) (sym up) (fork_other s.inputs node g c.args.one c.args.other live other_live l.here l.there c.if-here-there.true l.invariant)

pub loop-here-preserved : goal.loop-here-preserved
loop-here-preserved c =
    let s = c.self.inside in
    let node : ℕ → Node = node_at s.nodes.items in
    let g : AreBranched s.inputs node = joined s.inputs node c.self.invariant.tree.nodes in
    let l = c.loop-here in
    let live : IsLive (node c.args.one).content = subst (λ (u : TreeState). IsLive (node_at u.nodes c.args.one).content) (sym c.self.view_is) c.requires.one in
    let other_live : IsLive (node c.args.other).content = subst (λ (u : TreeState). IsLive (node_at u.nodes c.args.other).content) (sym c.self.view_is) c.requires.other in
    let up : c.get-else-here-there.result.now.parent ≡ (node l.here).parent = ap (λ (m : Node). m.parent) c.get-else-here-there.ensures in
    let lt : l.there < l.here = search (rules, c.if-here-there.false, c.loop-here-test.true) in
    subst (λ (p : ℕ). IsForking node c.args.one c.args.other p l.there) (sym up) (fork_one s.inputs node g c.args.one c.args.other live other_live l.here l.there lt l.invariant)
