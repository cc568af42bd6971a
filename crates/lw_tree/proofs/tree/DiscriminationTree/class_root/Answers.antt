use Rattle.std.proofs.Common.{rules}
use Rattle.lw_tree.proofs.ClimbLemmas.{leaf_climbs, parent_within, parent_lower, parent_climbs, member_below, member_of_all}
use Rattle.lw_tree.proofs.NodeLemmas.{live_within}
use Rattle.lw_tree.proofs.tree.DiscriminationTree.class_root.Goals as goal

pub loop-root-init : goal.loop-root-init
loop-root-init c =
    leaf_climbs c.args.state c.leaf-root.result c.self.view_is c.self.invariant.tree c.requires c.leaf-root.ensures.value

pub get-requires : goal.get-requires
get-requires c =
    let s = c.self.inside in
    live_within s.nodes.items c.loop-root.root c.loop-root.invariant.live

pub get-requires-in-loop-root : goal.get-requires-in-loop-root
get-requires-in-loop-root c =
    let l = c.loop-root in
    parent_within c.self.invariant.tree l.root c.args.state c.loop-root-test.true l.invariant c.get.ensures

pub returns-then-not-is_temporary : goal.returns-then-not-is_temporary
returns-then-not-is_temporary c =
    let l = c.loop-root in
    member_below c.self.invariant.tree l.root c.args.state c.loop-root-test.true l.invariant c.get.ensures c.self.view_is c.requires c.get-in-loop-root.ensures c.is_temporary.ensures (search rules)

pub loop-root-smaller : goal.loop-root-smaller
loop-root-smaller c =
    let l = c.loop-root in
    parent_lower c.self.invariant.tree l.root c.args.state c.loop-root-test.true l.invariant c.get.ensures

pub loop-root-preserved : goal.loop-root-preserved
loop-root-preserved c =
    let l = c.loop-root in
    parent_climbs c.self.invariant.tree l.root c.args.state c.loop-root-test.true l.invariant c.get.ensures c.self.view_is c.requires c.get-in-loop-root.ensures c.is_temporary.ensures (search rules)

pub returns : goal.returns
returns c =
    let l = c.loop-root in
    member_of_all l.root c.args.state c.self.view_is c.self.invariant.tree c.requires l.invariant (search rules)
