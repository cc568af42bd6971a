use Rattle.std.proofs.Common.{◌+◌, length}
use Rattle.lw_tree.proofs.GrowingLemmas.{growing, behind, found, growing_state, growing_inside, growing_there, growing_leaf, growing_can, growing_open}
use Rattle.lw_tree.proofs.tree.DiscriminationTree.grow_node.Goals as goal

pub unreachable-requires : goal.unreachable-requires
unreachable-requires c =
    let w = growing c.requires.sprout.0 c.args.sprout.now.nodes.items c.args.sprout.now.leaves.items c.args.place c.self.view_is c.self.invariant.tree c.requires.answers c.requires.read c.requires.sprout.1 c.requires.place c.requires.sprout.2 c.index.ensures in
    growing_state w c.in_default.not-State

pub lowest-lowest-requires-clause-state : goal.lowest-lowest-requires-clause-state
lowest-lowest-requires-clause-state c =
    let w = growing c.requires.sprout.0 c.args.sprout.now.nodes.items c.args.sprout.now.leaves.items c.args.place c.self.view_is c.self.invariant.tree c.requires.answers c.requires.read c.requires.sprout.1 c.requires.place c.requires.sprout.2 c.index.ensures in
    growing_inside w c.in-State.state c.in-State.is

pub lowest-lowest-requires-clause-at : goal.lowest-lowest-requires-clause-at
lowest-lowest-requires-clause-at c =
    let w = growing c.requires.sprout.0 c.args.sprout.now.nodes.items c.args.sprout.now.leaves.items c.args.place c.self.view_is c.self.invariant.tree c.requires.answers c.requires.read c.requires.sprout.1 c.requires.place c.requires.sprout.2 c.index.ensures in
    growing_there w c.in-State.state c.in-State.is c.deref.ensures.value (behind c.len.result c.args.place c.self.view_is c.len.ensures)

pub returns-in_default-content-clause-grown : goal.returns-in_default-content-clause-grown
returns-in_default-content-clause-grown c base long sprout =
    let w = growing base c.args.sprout.now.nodes.items c.args.sprout.now.leaves.items c.args.place c.self.view_is c.self.invariant.tree c.requires.answers c.requires.read long c.requires.place sprout c.index.ensures in
    let number = behind c.len.result c.args.place c.self.view_is c.len.ensures in
    let f = found c.args.place (c.len.result + c.args.place) c.lowest-lowest.result c.self.view_is c.deref.ensures.value number c.lowest-lowest.ensures c.get.ensures in
    growing_leaf w c.in-State.state c.in-State.is f c.in_default-content.not-Discriminator

pub part-requires-clause-can : goal.part-requires-clause-can
part-requires-clause-can c =
    let w = growing c.requires.sprout.0 c.args.sprout.now.nodes.items c.args.sprout.now.leaves.items c.args.place c.self.view_is c.self.invariant.tree c.requires.answers c.requires.read c.requires.sprout.1 c.requires.place c.requires.sprout.2 c.index.ensures in
    let number = behind c.len.result c.args.place c.self.view_is c.len.ensures in
    let f = found c.args.place (c.len.result + c.args.place) c.lowest-lowest.result c.self.view_is c.deref.ensures.value number c.lowest-lowest.ensures c.get.ensures in
    growing_can w c.in-State.state c.in-State.is f c.in-Discriminator.is number

pub returns-clause-grown : goal.returns-clause-grown
returns-clause-grown c base long sprout =
    let w = growing base c.args.sprout.now.nodes.items c.args.sprout.now.leaves.items c.args.place c.self.view_is c.self.invariant.tree c.requires.answers c.requires.read long c.requires.place sprout c.index.ensures in
    let number = behind c.len.result c.args.place c.self.view_is c.len.ensures in
    let f = found c.args.place (c.len.result + c.args.place) c.lowest-lowest.result c.self.view_is c.deref.ensures.value number c.lowest-lowest.ensures c.get.ensures in
    c.in_ok-part.ensures.grown base (length c.args.self.now.nodes + c.args.place + 1) long (growing_open w c.in-State.state c.in-State.is f c.in-Discriminator.is number c.lower.ensures.items c.in_ok-copy.ensures)
