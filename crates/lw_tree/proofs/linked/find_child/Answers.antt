use Rattle.std.proofs.Common.{rules, ◌≡◌, ◌≢◌, length, ap, sym, ◌∙◌, subst, arith}
use Rattle.lw_links.specs.Owners.{next_of}
use Rattle.lw_tree.specs.declared.nodes.Node.{Node}
use Rattle.lw_tree.proofs.FieldLemmas.{node_read}
use Rattle.lw_tree.proofs.LinkLemmas.{IsPassing, left_of, passing_first, passing_child, passing_next, passing_shorter}
use Rattle.lw_tree.proofs.NodeLemmas.{live_within}
use Rattle.lw_tree.proofs.linked.find_child.Goals as goal

pub loop-cursor-init : goal.loop-cursor-init
loop-cursor-init c =
    subst (IsPassing c.args.nodes.now c.args.children.now c.args.parent c.args.outputs.now) (sym c.first-cursor.ensures)
    (passing_first c.args.nodes.now c.args.children.now c.args.parent c.args.outputs.now c.requires.linked c.has_each_once.ensures)

pub returns-then-eq : goal.returns-then-eq
returns-then-eq c =
    let nodes = c.args.nodes.now in
    let child = passing_child nodes c.args.children.now c.args.parent c.args.outputs.now c.requires.linked c.has_each_once.ensures c.in-Some.child c.loop-cursor.cursor c.in-Some.is c.loop-cursor.invariant in
    let at = node_read nodes c.in-Some.child c.index-nodes-child.result (live_within nodes c.in-Some.child child.1) c.index-nodes-child.is in
    let same : c.index-nodes-child.result.branch ≡ c.args.outputs.now = search rules in
    (child, ap (λ (m : Node). m.branch) (sym at) ∙ same)

pub loop-cursor-smaller : goal.loop-cursor-smaller
loop-cursor-smaller c =
    let shorter = passing_shorter c.args.nodes.now c.args.children.now c.args.parent c.args.outputs.now c.requires.linked c.has_each_once.ensures c.in-Some.child c.loop-cursor.cursor c.in-Some.is c.loop-cursor.invariant in
    let next : length (left_of c.args.children.now c.next-cursor.result) ≡ length (left_of c.args.children.now (next_of c.args.children.now c.in-Some.child)) = ap (λ s. length (left_of c.args.children.now s)) c.next-cursor.ensures in
    omega (arith, shorter, next)

pub loop-cursor-preserved : goal.loop-cursor-preserved
loop-cursor-preserved c =
    let nodes = c.args.nodes.now in
    let child = passing_child nodes c.args.children.now c.args.parent c.args.outputs.now c.requires.linked c.has_each_once.ensures c.in-Some.child c.loop-cursor.cursor c.in-Some.is c.loop-cursor.invariant in
    let at = node_read nodes c.in-Some.child c.index-nodes-child.result (live_within nodes c.in-Some.child child.1) c.index-nodes-child.is in
    let differ : c.index-nodes-child.result.branch ≢ c.args.outputs.now = search rules in
    subst (IsPassing nodes c.args.children.now c.args.parent c.args.outputs.now) (sym c.next-cursor.ensures)
    (passing_next nodes c.args.children.now c.args.parent c.args.outputs.now c.requires.linked c.has_each_once.ensures c.in-Some.child c.loop-cursor.cursor c.in-Some.is c.loop-cursor.invariant (λ same. differ (ap (λ (m : Node). m.branch) at ∙ same)))
