use Rattle.std.proofs.Common.{rules, ◌≡◌, ◌-◌, ◌<◌, ◌≤◌, ◌==◌, if◌then◌else◌, min, vec_len, vec_capacity, Some, ℕ, List, [], ◌∷◌, ◌++◌, length, sym, subst, arith}
use Rattle.lw_links.specs.Owners.{ListsByOwner, owner_of}
use Rattle.lw_tree.specs.bodies.Nodes.{NodeList, AreLinked}
use Rattle.lw_tree.specs.bodies.Steps.{leaf_below}
use Rattle.lw_tree.specs.declared.nodes.Node.{Node}
use Rattle.lw_tree.proofs.ArrivalLemmas.{size_pushed}
use Rattle.lw_tree.proofs.LinkLemmas.{leaf_linked, free_past}
use Rattle.lw_tree.proofs.linked.Nodes.push_leaf.Goals as goal

pub push-requires : goal.push-requires
push-requires c =
    let s = c.self.inside in
    let room : 1 ≤ min (vec_capacity s.nodes - vec_len s.nodes) (s.children.cells - vec_len s.nodes) = subst (λ (n : NodeList). 1 ≤ n.room) (sym c.self.view_is) c.requires.room in
    let parent : c.args.parent < length s.nodes.items = subst (λ (n : NodeList). c.args.parent < length n.items) (sym c.self.view_is) c.requires.parent in
    let each = c.self.invariant.each in
    let owners = c.self.invariant.owners in
    let at : c.len.result ≡ length s.nodes.items = search rules in
    record {
      owner_exists = omega (arith, parent, each, owners);
      cell_exists = omega (arith, room, c.len.ensures);
      in_no_list = free_past s.nodes.items s.children c.self.invariant c.len.result (omega (arith, at));
    }

pub invariant_of-self : goal.invariant_of-self
invariant_of-self c =
    let s = c.self.inside in
    let room : 1 ≤ min (vec_capacity s.nodes - vec_len s.nodes) (s.children.cells - vec_len s.nodes) = subst (λ (n : NodeList). 1 ≤ n.room) (sym c.self.view_is) c.requires.room in
    let parent : c.args.parent < length s.nodes.items = subst (λ (n : NodeList). c.args.parent < length n.items) (sym c.self.view_is) c.requires.parent in
    let at : c.len.result ≡ length s.nodes.items = search rules in
    let nodes : c.push_reserved.new.self.items ≡ s.nodes.items ++ leaf_below c.args.parent c.args.branch c.args.state ∷ [] = search rules in
    let size = size_pushed s.children c.args.parent c.len.result in
    let sizes : (length c.push.new.self.lists ≡ length s.children.lists) × (c.push.new.self.cells ≡ s.children.cells) = subst (λ (w : ListsByOwner). (length w.lists ≡ length s.children.lists) × (w.cells ≡ s.children.cells)) (sym c.push.ensures.value) (size.owners, size.cells) in
    let owner : (k : ℕ) → owner_of c.push.new.self k ≡ (if k == length s.nodes.items then Some c.args.parent else owner_of s.children k) = subst (λ (n : ℕ). (k : ℕ) → owner_of c.push.new.self k ≡ (if k == n then Some c.args.parent else owner_of s.children k)) at c.push.ensures.owners in
    subst (λ (n : List Node). AreLinked n c.push.new.self) (sym nodes) (leaf_linked s.nodes.items s.children c.push.new.self c.args.parent c.args.branch c.args.state c.self.invariant parent (omega (arith, room, c.len.ensures, at)) sizes owner)
