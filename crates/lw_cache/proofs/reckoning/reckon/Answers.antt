use Rattle.std.proofs.Common.{◌<◌, ℕ, length, subst, arith}
use Rattle.lw_cache.specs.bodies.Trie.{node_at, IsLeast}
use Rattle.lw_cache.proofs.UpLemmas.{node_set_same, node_set_other}
use Rattle.lw_cache.proofs.ReckonLemmas.{reckon_right, reckon_more}
use Rattle.lw_cache.proofs.reckoning.reckon.Goals as goal

pub returns-then-claim-here-clause-least : goal.returns-then-claim-here-clause-least
returns-then-claim-here-clause-least c =
    let here : IsLeast (node_at c.loop-node.nodes) (length c.args.nodes.now) c.loop-node.node c.least_claim-claim.result =
    subst (λ (n : ℕ). IsLeast (node_at c.loop-node.nodes) n c.loop-node.node c.least_claim-claim.result) c.loop-node.auto.nodes c.least_claim-claim.ensures in
    reckon_right (node_at c.args.nodes.now) (node_at c.loop-node.nodes) (length c.args.nodes.now) c.loop-node.node c.least_claim-claim.result c.loop-node.invariant here c.if-claim-here.true

pub loop-node-preserved : goal.loop-node-preserved
loop-node-preserved c =
    let here : IsLeast (node_at c.loop-node.nodes) (length c.args.nodes.now) c.loop-node.node c.least_claim-claim.result =
    subst (λ (n : ℕ). IsLeast (node_at c.loop-node.nodes) n c.loop-node.node c.least_claim-claim.result) c.loop-node.auto.nodes c.least_claim-claim.ensures in
    let within : c.loop-node.node < length c.loop-node.nodes = omega (arith, c.loop-node.invariant.within, c.loop-node.auto.nodes) in
    (reckon_more (node_at c.args.nodes.now) (node_at c.loop-node.nodes) _ (length c.args.nodes.now) c.loop-node.node c.least_claim-claim.result c.requires.trie c.loop-node.invariant c.loop-node-test.true here
    (node_set_same c.loop-node.nodes c.loop-node.node _ within) (λ i other. node_set_other c.loop-node.nodes c.loop-node.node i _ other)).0
