use Rattle.std.proofs.Common.{List, length, take, Some, None, subst}
use Rattle.lw_cache.specs.bodies.Trie.{node_at, word_of}
use Rattle.lw_cache.specs.bodies.Filling.{ComparedTo, IsReached}
use Rattle.lw_cache.specs.declared.node.Node.{Node}
use Rattle.lw_cache.proofs.WholeLemmas.{compared_whole}
use Rattle.lw_cache.proofs.filling.tell.Goals as goal

pub returns-in-Some-clause-found : goal.returns-in-Some-clause-found
returns-in-Some-clause-found c =
    let reached : IsReached (node_at c.args.nodes.now.items) (length c.args.nodes.now.items) c.args.word.now c.reach-node.result.0 c.reach-node.result.1 =
    subst (λ (l : List Node). IsReached (node_at l) (length l) c.args.word.now c.reach-node.result.0 c.reach-node.result.1) c.deref.ensures.value c.reach-node.ensures in
    let compared : ComparedTo (node_at c.args.nodes.now.items) (length c.args.nodes.now.items) (word_of (node_at c.args.nodes.now.items) c.reach-node.result.0) (take c.reach-node.result.1 c.args.outs.now) 0 (Some c.in-Some.found) =
    subst (λ (l : List Node). ComparedTo (node_at l) (length l) (word_of (node_at l) c.reach-node.result.0) (take c.reach-node.result.1 c.args.outs.now) 0 (Some c.in-Some.found)) c.deref-2.ensures.value c.in-Some.ensures in
    compared_whole (node_at c.args.nodes.now.items) (length c.args.nodes.now.items) c.requires.trie c.args.word.now c.args.outs.now c.reach-node.result.0 c.reach-node.result.1 reached c.requires.lengths (Some c.in-Some.found) compared

pub returns-clause-found : goal.returns-clause-found
returns-clause-found c =
    let reached : IsReached (node_at c.args.nodes.now.items) (length c.args.nodes.now.items) c.args.word.now c.reach-node.result.0 c.reach-node.result.1 =
    subst (λ (l : List Node). IsReached (node_at l) (length l) c.args.word.now c.reach-node.result.0 c.reach-node.result.1) c.deref.ensures.value c.reach-node.ensures in
    let compared : ComparedTo (node_at c.args.nodes.now.items) (length c.args.nodes.now.items) (word_of (node_at c.args.nodes.now.items) c.reach-node.result.0) (take c.reach-node.result.1 c.args.outs.now) 0 None =
    subst (λ (l : List Node). ComparedTo (node_at l) (length l) (word_of (node_at l) c.reach-node.result.0) (take c.reach-node.result.1 c.args.outs.now) 0 None) c.deref-2.ensures.value c.in_default.ensures in
    compared_whole (node_at c.args.nodes.now.items) (length c.args.nodes.now.items) c.requires.trie c.args.word.now c.args.outs.now c.reach-node.result.0 c.reach-node.result.1 reached c.requires.lengths None compared
