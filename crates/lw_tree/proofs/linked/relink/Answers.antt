use Rattle.std.proofs.Common.{rules, ◌≡◌, ◌<◌, ◌≤◌, ◌==◌, if◌then◌else◌, Some, length, ap, ◌∙◌, subst, arith}
use Rattle.lw_links.specs.Owners.{owner_of, pushed}
use Rattle.lw_tree.specs.Tree.{node_at, IsLive}
use Rattle.lw_tree.specs.declared.nodes.Node.{Node}
use Rattle.lw_tree.proofs.FieldLemmas.{node_read}
use Rattle.lw_tree.proofs.RelinkLemmas.{linked_none, live_else, next_free, linked_first, linked_all}
use Rattle.lw_tree.proofs.linked.relink.Goals as goal

pub loop-number-init : goal.loop-number-init
loop-number-init c = linked_none c.args.nodes.now c.args.children.now c.requires.owners c.requires.each c.requires.free

pub push-requires : goal.push-requires
push-requires c =
    let nodes = c.args.nodes.now in
    let l = c.loop-number in
    let inside : l.number < length nodes = search rules in
    let some : 0 < l.number = omega (arith, l.auto.number) in
    let at : c.index-nodes-number.result ≡ node_at nodes l.number = node_read nodes l.number c.index-nodes-number.result inside c.index-nodes-number.is in
    let live : IsLive (node_at nodes l.number).content = subst (λ (m : Node). IsLive m.content) at (live_else c.index-nodes-number.result.content c.in_default.not-Gone) in
    let lower = c.requires.lower l.number some live in
    let up : c.index-nodes-number.result.parent ≡ (node_at nodes l.number).parent = ap (λ (m : Node). m.parent) at in
    let each = l.invariant.each in
    let owners = l.invariant.owners in
    record {
      owner_exists = omega (arith, lower, inside, up, each, owners);
      cell_exists = omega (arith, inside, each);
      in_no_list = next_free nodes l.number l.children l.invariant;
    }

pub loop-number-preserved : goal.loop-number-preserved
loop-number-preserved c =
    let nodes = c.args.nodes.now in
    let l = c.loop-number in
    let inside : l.number < length nodes = search rules in
    let some : 0 < l.number = omega (arith, l.auto.number) in
    let at : c.index-nodes-number.result ≡ node_at nodes l.number = node_read nodes l.number c.index-nodes-number.result inside c.index-nodes-number.is in
    let live : IsLive (node_at nodes l.number).content = subst (λ (m : Node). IsLive m.content) at (live_else c.index-nodes-number.result.content c.in_default.not-Gone) in
    linked_first nodes l.number l.children l.invariant c.push.new.self some live (c.push.ensures.value ∙ ap (λ (m : Node). pushed l.children m.parent l.number) at)
    (λ k. c.push.ensures.owners k ∙ ap (λ (m : Node). if k == l.number then Some m.parent else owner_of l.children k) at)

pub returns : goal.returns
returns c =
    let l = c.loop-number in
    let ge : length c.args.nodes.now ≤ l.number = search rules in
    let le = l.auto.number-end (omega (arith, c.requires.some)) in
    linked_all c.args.nodes.now l.number l.children (omega (arith, ge, le)) l.invariant
