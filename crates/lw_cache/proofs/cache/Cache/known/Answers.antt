use Rattle.std.proofs.Common.{arith, ◌<◌}
use Rattle.lw_cache.specs.bodies.Trie.{no_claim}
use Rattle.lw_cache.proofs.LookLemmas.{here, look_missing, look_known, look_pending, look_free}
use Rattle.lw_cache.proofs.cache.Cache.known.Goals as goal

pub returns-then-node-eq0 : goal.returns-then-node-eq0
returns-then-node-eq0 c =
    look_missing c.self.inside.nodes.items c.self.inside.held.items c.self.inside.kept.answers _ _ c.args.self.now c.self.view_is c.self.invariant.0 (omega arith)
    c.deref.result.now _ c.args.w.now c.find-node.result c.len.result c.deref.ensures.value c.as_slice.ensures c.find-node.ensures c.if-node-eq0.true c.len.ensures c.if-len-eq0.false

pub returns-then-found : goal.returns-then-found
returns-then-found c =
    look_known c.self.inside.nodes.items c.self.inside.held.items c.self.inside.kept.answers _ _ c.args.self.now c.self.view_is c.self.invariant.0 (omega arith)
    c.args.w.now c.find-node.result c.index-found.result.now
    (here c.deref.result.now c.self.inside.nodes.items _ c.args.w.now c.find-node.result c.index-found.result.now c.deref.ensures.value c.as_slice.ensures c.find-node.ensures c.if-node-eq0.false c.index-found.ensures)
    c.if-found.true

pub overflow_cast-result : goal.overflow_cast-result
overflow_cast-result c =
    let r = look_pending c.self.inside.nodes.items c.self.inside.held.items c.self.inside.kept.answers _ _ c.args.self.now c.self.view_is c.self.invariant.0 (omega arith)
    c.args.w.now c.find-node.result c.index-found.result.now
    (here c.deref.result.now c.self.inside.nodes.items _ c.args.w.now c.find-node.result c.index-found.result.now c.deref.ensures.value c.as_slice.ensures c.find-node.ensures c.if-node-eq0.false c.index-found.ensures)
    c.if-found.false c.if-found-ne-UNCLAIMED.true in
    let small : c.index-found.result.now.claim < no_claim = r.1 in
    omega arith

pub returns-then-found-ne-UNCLAIMED : goal.returns-then-found-ne-UNCLAIMED
returns-then-found-ne-UNCLAIMED c =
    (look_pending c.self.inside.nodes.items c.self.inside.held.items c.self.inside.kept.answers _ _ c.args.self.now c.self.view_is c.self.invariant.0 (omega arith)
    c.args.w.now c.find-node.result c.index-found.result.now
    (here c.deref.result.now c.self.inside.nodes.items _ c.args.w.now c.find-node.result c.index-found.result.now c.deref.ensures.value c.as_slice.ensures c.find-node.ensures c.if-node-eq0.false c.index-found.ensures)
    c.if-found.false c.if-found-ne-UNCLAIMED.true).0

pub returns : goal.returns
returns c =
    look_free c.self.inside.nodes.items c.self.inside.held.items c.self.inside.kept.answers _ _ c.args.self.now c.self.view_is c.self.invariant.0 (omega arith)
    c.args.w.now c.find-node.result c.index-found.result.now
    (here c.deref.result.now c.self.inside.nodes.items _ c.args.w.now c.find-node.result c.index-found.result.now c.deref.ensures.value c.as_slice.ensures c.find-node.ensures c.if-node-eq0.false c.index-found.ensures)
    c.if-found.false c.if-found-ne-UNCLAIMED.false
