use Rattle.std.proofs.Common.{◌≡◌, ◌+◌, ◌-◌, ◌^◌, ◌<◌, ◌≤◌, min, vec_len, vec_capacity, List, length, ap, sym, ◌∙◌, subst, arith}
use Rattle.std.proofs.lemmas.List.{length-append, length-set}
use Rattle.lw_tree.specs.Tree.{node_at}
use Rattle.lw_tree.specs.bodies.Nodes.{NodeList}
use Rattle.lw_tree.specs.bodies.Sprouts.{final_node}
use Rattle.lw_tree.specs.declared.nodes.Node.{Node}
use Rattle.lw_tree.proofs.ClearedLemmas.{cleared_long}
use Rattle.lw_tree.proofs.linked.Nodes.replace.Goals as goal

pub make_final-requires : goal.make_final-requires
make_final-requires c =
    let s = c.self.inside in
    let room : length c.args.more.items ≤ min (vec_capacity s.nodes - vec_len s.nodes) (s.children.cells - vec_len s.nodes) = subst (λ (n : NodeList). length c.args.more.items ≤ n.room) (sym c.self.view_is) c.requires.room in
    let root : c.args.root < length s.nodes.items = subst (λ (n : NodeList). c.args.root < length n.items) (sym c.self.view_is) c.requires.root in
    let few : length s.nodes.items + length c.args.more.items < 2 ^ 32 = subst (λ (n : NodeList). length n.items + length c.args.more.items < 2 ^ 32) (sym c.self.view_is) c.requires.few in
    let one : length c.clear.new.nodes.items ≡ length s.nodes.items = ap (λ (l : List Node). length l) c.clear.ensures.items ∙ cleared_long s.nodes.items c.args.below.now in
    omega (arith, one, root)

pub append-requires : goal.append-requires
append-requires c =
    let s = c.self.inside in
    let room : length c.args.more.items ≤ min (vec_capacity s.nodes - vec_len s.nodes) (s.children.cells - vec_len s.nodes) = subst (λ (n : NodeList). length c.args.more.items ≤ n.room) (sym c.self.view_is) c.requires.room in
    let root : c.args.root < length s.nodes.items = subst (λ (n : NodeList). c.args.root < length n.items) (sym c.self.view_is) c.requires.root in
    let few : length s.nodes.items + length c.args.more.items < 2 ^ 32 = subst (λ (n : NodeList). length n.items + length c.args.more.items < 2 ^ 32) (sym c.self.view_is) c.requires.few in
    let one : length c.clear.new.nodes.items ≡ length s.nodes.items = ap (λ (l : List Node). length l) c.clear.ensures.items ∙ cleared_long s.nodes.items c.args.below.now in
    let two : length c.make_final.new.nodes.items ≡ length c.clear.new.nodes.items = ap (λ (l : List Node). length l) c.make_final.ensures.items ∙ length-set c.clear.new.nodes.items c.args.root (final_node (node_at c.clear.new.nodes.items c.args.root) c.args.word) in
    let len = c.make_final.new.nodes.ok.0 in
    let was = s.nodes.ok.0 in
    let capacity : vec_capacity c.make_final.new.nodes ≡ vec_capacity s.nodes = c.make_final.ensures.capacity ∙ c.clear.ensures.capacity in
    omega (arith, room, one, two, len, was, capacity, s.nodes.ok)

pub relink-requires-clause-some : goal.relink-requires-clause-some
relink-requires-clause-some c =
    let s = c.self.inside in
    let room : length c.args.more.items ≤ min (vec_capacity s.nodes - vec_len s.nodes) (s.children.cells - vec_len s.nodes) = subst (λ (n : NodeList). length c.args.more.items ≤ n.room) (sym c.self.view_is) c.requires.room in
    let root : c.args.root < length s.nodes.items = subst (λ (n : NodeList). c.args.root < length n.items) (sym c.self.view_is) c.requires.root in
    let few : length s.nodes.items + length c.args.more.items < 2 ^ 32 = subst (λ (n : NodeList). length n.items + length c.args.more.items < 2 ^ 32) (sym c.self.view_is) c.requires.few in
    let one : length c.clear.new.nodes.items ≡ length s.nodes.items = ap (λ (l : List Node). length l) c.clear.ensures.items ∙ cleared_long s.nodes.items c.args.below.now in
    let two : length c.make_final.new.nodes.items ≡ length c.clear.new.nodes.items = ap (λ (l : List Node). length l) c.make_final.ensures.items ∙ length-set c.clear.new.nodes.items c.args.root (final_node (node_at c.clear.new.nodes.items c.args.root) c.args.word) in
    let three : length c.append.new.nodes.items ≡ length c.make_final.new.nodes.items + length c.args.more.items = ap (λ (l : List Node). length l) c.append.ensures ∙ length-append c.make_final.new.nodes.items c.args.more.items in
    let at : length c.deref.result.now ≡ length c.append.new.nodes.items = ap (λ (l : List Node). length l) c.deref.ensures.value in
    omega (arith, one, two, three, root, at)

pub relink-requires-clause-few : goal.relink-requires-clause-few
relink-requires-clause-few c =
    let s = c.self.inside in
    let room : length c.args.more.items ≤ min (vec_capacity s.nodes - vec_len s.nodes) (s.children.cells - vec_len s.nodes) = subst (λ (n : NodeList). length c.args.more.items ≤ n.room) (sym c.self.view_is) c.requires.room in
    let root : c.args.root < length s.nodes.items = subst (λ (n : NodeList). c.args.root < length n.items) (sym c.self.view_is) c.requires.root in
    let few : length s.nodes.items + length c.args.more.items < 2 ^ 32 = subst (λ (n : NodeList). length n.items + length c.args.more.items < 2 ^ 32) (sym c.self.view_is) c.requires.few in
    let one : length c.clear.new.nodes.items ≡ length s.nodes.items = ap (λ (l : List Node). length l) c.clear.ensures.items ∙ cleared_long s.nodes.items c.args.below.now in
    let two : length c.make_final.new.nodes.items ≡ length c.clear.new.nodes.items = ap (λ (l : List Node). length l) c.make_final.ensures.items ∙ length-set c.clear.new.nodes.items c.args.root (final_node (node_at c.clear.new.nodes.items c.args.root) c.args.word) in
    let three : length c.append.new.nodes.items ≡ length c.make_final.new.nodes.items + length c.args.more.items = ap (λ (l : List Node). length l) c.append.ensures ∙ length-append c.make_final.new.nodes.items c.args.more.items in
    let at : length c.deref.result.now ≡ length c.append.new.nodes.items = ap (λ (l : List Node). length l) c.deref.ensures.value in
    omega (arith, one, two, three, few, at)

pub relink-requires-clause-each : goal.relink-requires-clause-each
relink-requires-clause-each c =
    let s = c.self.inside in
    let cells : length s.nodes.items + length c.args.more.items ≤ c.args.children.cells = subst (λ (n : NodeList). length n.items + length c.args.more.items ≤ c.args.children.cells) (sym c.self.view_is) c.requires.cells in
    let one : length c.clear.new.nodes.items ≡ length s.nodes.items = ap (λ (l : List Node). length l) c.clear.ensures.items ∙ cleared_long s.nodes.items c.args.below.now in
    let two : length c.make_final.new.nodes.items ≡ length c.clear.new.nodes.items = ap (λ (l : List Node). length l) c.make_final.ensures.items ∙ length-set c.clear.new.nodes.items c.args.root (final_node (node_at c.clear.new.nodes.items c.args.root) c.args.word) in
    let three : length c.append.new.nodes.items ≡ length c.make_final.new.nodes.items + length c.args.more.items = ap (λ (l : List Node). length l) c.append.ensures ∙ length-append c.make_final.new.nodes.items c.args.more.items in
    let at : length c.deref.result.now ≡ length c.append.new.nodes.items = ap (λ (l : List Node). length l) c.deref.ensures.value in
    omega (arith, one, two, three, cells, at)
