use Rattle.std.proofs.Common.{◌≡◌, ◌≤◌, length, arith, subst, take, ap, sym, ◌∙◌, List, ℕ}
use Rattle.lw_words.specs.Word.{answers_of}
use Rattle.lw_cache.specs.Known.{Reads}
use Rattle.lw_cache.proofs.LookLemmas.{here, look_missing, unknown_seen, answer_seen, outputs_seen}
use Rattle.lw_cache.proofs.cache.Cache.read.Goals as goal

pub returns-then-node-eq0 : goal.returns-then-node-eq0
returns-then-node-eq0 c =
    (look_missing c.self.inside.nodes.items c.self.inside.held.items c.self.inside.kept.answers _ _ c.args.self.now c.self.view_is c.self.invariant.0 (omega arith)
    c.deref.result.now _ c.args.w.now c.find-node.result c.len.result c.deref.ensures.value c.as_slice.ensures c.find-node.ensures c.if-node-eq0.true c.len.ensures c.if-len-eq0.false).0

pub returns-then-answer : goal.returns-then-answer
returns-then-answer c =
    unknown_seen c.self.inside.nodes.items c.self.inside.held.items c.self.inside.kept.answers _ _ c.args.self.now c.self.view_is c.self.invariant.0 (omega arith)
    c.args.w.now c.find-node.result c.index.result.now
    (here c.deref.result.now c.self.inside.nodes.items _ c.args.w.now c.find-node.result c.index.result.now c.deref.ensures.value c.as_slice.ensures c.find-node.ensures c.if-node-eq0.false c.index.ensures)
    c.if-answer.true

pub get-requires : goal.get-requires
get-requires c =
    answer_seen c.self.inside.nodes.items c.self.inside.held.items c.self.inside.kept.answers _ _ c.args.self.now c.self.view_is c.self.invariant.0 (omega arith)
    c.args.w.now c.find-node.result c.index.result.now
    (here c.deref.result.now c.self.inside.nodes.items _ c.args.w.now c.find-node.result c.index.result.now c.deref.ensures.value c.as_slice.ensures c.find-node.ensures c.if-node-eq0.false c.index.ensures)
    c.if-answer.false

pub prefix-requires : goal.prefix-requires
prefix-requires c =
    let r = outputs_seen c.self.inside.nodes.items c.self.inside.held.items c.self.inside.kept.answers _ _ c.args.self.now c.self.view_is c.self.invariant.0 (omega arith)
    c.args.w.now c.find-node.result c.index.result.now c.get.result.now
    (here c.deref.result.now c.self.inside.nodes.items _ c.args.w.now c.find-node.result c.index.result.now c.deref.ensures.value c.as_slice.ensures c.find-node.ensures c.if-node-eq0.false c.index.ensures)
    c.if-answer.false c.get.ensures in
    let le : length c.args.w.now ≤ length c.get.result.now.outs = r.0 in
    omega arith

pub returns : goal.returns
returns c =
    let r = outputs_seen c.self.inside.nodes.items c.self.inside.held.items c.self.inside.kept.answers _ _ c.args.self.now c.self.view_is c.self.invariant.0 (omega arith)
    c.args.w.now c.find-node.result c.index.result.now c.get.result.now
    (here c.deref.result.now c.self.inside.nodes.items _ c.args.w.now c.find-node.result c.index.result.now c.deref.ensures.value c.as_slice.ensures c.find-node.ensures c.if-node-eq0.false c.index.ensures)
    c.if-answer.false c.get.ensures in
    let is : c.in_ok-outs.outs ≡ take c.len-2.result c.get.result.now.outs = c.in_ok-outs.ensures in
    subst (λ (o : List ℕ). Reads (answers_of c.args.self.now.kept) c.args.w.now o) (sym (is ∙ ap (λ (k : ℕ). take k c.get.result.now.outs) c.len-2.ensures)) r.1
