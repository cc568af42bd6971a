use Rattle.std.proofs.Common.{rules, ◌<◌, ℕ, length, sym, subst, arith}
use Rattle.lw_tree.specs.Blocks.{IsFork}
use Rattle.lw_tree.specs.Tree.{TreeState, node_at, leaf_at, IsTree, IsLive}
use Rattle.lw_tree.proofs.LowestLemmas.{lowest_fork}
use Rattle.lw_tree.proofs.tree.DiscriminationTree.lowest.Goals as goal

pub loop-other-preserved : goal.loop-other-preserved
loop-other-preserved c =
    let s = c.self.inside in
    let u : TreeState = c.args.self.now in
    let l = c.loop-other in
    let g : IsTree u = subst (λ (v : TreeState). IsTree v) c.self.view_is c.self.invariant.tree in
    let in_access : l.other < length s.access = search rules in
    let inside : l.other < length u.access = subst (λ (v : TreeState). l.other < length v.access) c.self.view_is in_access in
    let live : (q : ℕ) → q < length u.access → IsLive (node_at u.nodes (leaf_at u.leaves q)).content = λ q lt. subst IsLive (sym (g.leaves.leaves q lt)) tt in
    lowest_fork (node_at u.nodes) g.nodes.branches (leaf_at u.leaves) (leaf_at c.args.leaves.now) c.args.state c.args.number l.other l.lowest c.fork-lowest.result (λ q le. live q (omega (arith, le, inside))) (live c.args.state c.requires.state) (search rules)
    (subst (λ (n : ℕ). IsFork (node_at u.nodes) l.lowest n c.fork-lowest.result) c.leaf.ensures.value c.fork-lowest.ensures.fork) c.fork-lowest.ensures.live l.invariant
