use Rattle.std.proofs.Common.{rules, Some, ◌≡◌, ◌+◌, ◌*◌, ◌^◌, ◌<◌, ℕ, List, [], ◌∷◌, ◌++◌, length, replicate, set, refl, sym, ◌∙◌, ap, subst, arith}
use Rattle.std.proofs.lemmas.List.{get_or_default}
use Rattle.lw_tree.specs.Tree.{TreeState, no_place, node_at, leaf_at, edge_at, no_edge, IsLive, IsTree}
use Rattle.lw_tree.specs.bodies.Arrivals.{AreArrivals, IsListedTree, HasSplitState}
use Rattle.lw_tree.specs.bodies.Nodes.{tree_of}
use Rattle.lw_tree.specs.bodies.Steps.{set_place, leaf_below, moved_edge, inner_node, lowered, IsNextSplit, split_tree}
use Rattle.lw_tree.specs.bodies.Transitions.{word_of, place_by}
use Rattle.lw_tree.specs.declared.transitions.Edge.{Edge}
use Rattle.lw_tree.specs.declared.transitions.Place.{Place}
use Rattle.lw_links.specs.Owners.{owner_of}
use Rattle.lw_tree.proofs.ArrivalLemmas.{split_state_at}
use Rattle.lw_tree.proofs.ListedLemmas.{cells_few, cell_below, room_below, edge_owner, target_owner, moved_long, split_listed}
use Rattle.lw_tree.proofs.FieldLemmas.{split_is_tree, split_value}
use Rattle.lw_tree.proofs.LowerLemmas.{edge_inside, length-moved_edge, not_reached_so}
use Rattle.lw_tree.proofs.ShapeLemmas.{shape_of, leaf_live, place_inside}
use Rattle.lw_tree.proofs.RoomLemmas.{same_vectors, on_err}
use Rattle.lw_tree.proofs.tree.DiscriminationTree.push_split.Goals as goal

pub move_edge-requires : goal.move_edge-requires
move_edge-requires c some =
    let s = c.self.inside in
    let t : TreeState = tree_of s.inputs s.outputs s.most s.access s.nodes.items s.leaves.items s.places.items s.spanning.items s.refinements in
    let n = subst (λ (u : TreeState). (output : ℕ) × IsNextSplit u c.args.edge output c.args.target c.args.suffix c.args.old c.args.new) (sym c.self.view_is) c.requires.next in
    let next = n.1 in
    let in_spanning : c.args.target < length s.spanning.items = omega (arith, next.target, c.self.invariant.tree.each_edge) in
    let edge : c.index-reached.result.now ≡ edge_at t.spanning c.args.target = search (rules, get_or_default s.spanning.items c.args.target c.index-reached.result.now no_edge in_spanning) in
    let inside = edge_inside t c.args.target c.args.suffix c.args.old (shape_of t c.self.invariant.tree) next.target next.letters next.some next.old_size (search (rules, some)) in
    search (rules, subst (λ (e : Edge). e.state * t.inputs + e.letter < length t.places) (sym edge) inside)

pub split_leaf-requires-clause-leaf : goal.split_leaf-requires-clause-leaf
split_leaf-requires-clause-leaf c =
    let s = c.self.inside in
    let t : TreeState = tree_of s.inputs s.outputs s.most s.access s.nodes.items s.leaves.items s.places.items s.spanning.items s.refinements in
    let q : ℕ = c.args.target in
    let next = subst (λ (u : TreeState). (output : ℕ) × IsNextSplit u c.args.edge output c.args.target c.args.suffix c.args.old c.args.new) (sym c.self.view_is) c.requires.next in
    let in_leaves : q < length s.leaves.items = omega (arith, next.1.target, c.self.invariant.tree.each_leaf) in
    let leaf : c.index-leaf.result.now ≡ leaf_at t.leaves q = search (rules, get_or_default s.leaves.items q c.index-leaf.result.now 0 in_leaves) in
    let live : IsLive (node_at s.nodes.items (leaf_at t.leaves q)).content = leaf_live t (shape_of t c.self.invariant.tree) q next.1.target in
    search (rules, leaf, live)

pub returns-clause-ok : goal.returns-clause-ok
returns-clause-ok c output following =
    let s = c.self.inside in
    let t : TreeState = tree_of s.inputs s.outputs s.most s.access s.nodes.items s.leaves.items s.places.items s.spanning.items s.refinements in
    let q : ℕ = c.args.target in
    let next = subst (λ (u : TreeState). IsNextSplit u c.args.edge output c.args.target c.args.suffix c.args.old c.args.new) (sym c.self.view_is) following in
    let word : c.args.word ≡ word_of t c.args.edge = subst (λ (u : TreeState). c.args.word ≡ word_of u c.args.edge) (sym c.self.view_is) c.requires.word in
    let access : c.push.new.self ≡ s.access ++ word_of t c.args.edge ∷ [] = search (rules, word) in
    let in_spanning : q < length s.spanning.items = omega (arith, next.target, c.self.invariant.tree.each_edge) in
    let in_leaves : q < length s.leaves.items = omega (arith, next.target, c.self.invariant.tree.each_leaf) in
    let edge : c.index-reached.result.now ≡ edge_at t.spanning q = search (rules, get_or_default s.spanning.items q c.index-reached.result.now no_edge in_spanning) in
    let leaf : c.index-leaf.result.now ≡ leaf_at t.leaves q = search (rules, get_or_default s.leaves.items q c.index-leaf.result.now 0 in_leaves) in
    let nodes : c.split_leaf.new.self.items ≡ (set t.nodes (leaf_at t.leaves q) (inner_node (node_at t.nodes (leaf_at t.leaves q)) c.args.suffix) ++ leaf_below (leaf_at t.leaves q) c.args.old q ∷ []) ++ leaf_below (leaf_at t.leaves q) c.args.new (length t.leaves) ∷ [] = search (rules, leaf) in
    let leaves : c.push_reserved.new.self.items ≡ set t.leaves q (length t.nodes) ++ (length t.nodes + 1) ∷ [] = search rules in
    let moved : c.move_edge.new.places.items ≡ moved_edge t.inputs t.places (edge_at t.spanning q) q (length t.nodes) = search (rules, edge) in
    let number : c.number-number.result ≡ c.args.edge.state * t.inputs + c.args.edge.letter = c.number-number.ensures in
    let in_places : c.number-number.result < length c.move_edge.new.places.items = subst (λ (n : ℕ). n < length c.move_edge.new.places.items) (sym number)
    (subst (λ (l : List Place). c.args.edge.state * t.inputs + c.args.edge.letter < length l) (sym moved) (subst (λ (n : ℕ). c.args.edge.state * t.inputs + c.args.edge.letter < n) (sym (length-moved_edge t.inputs t.places (edge_at t.spanning q) (length t.nodes) q)) (place_inside t (shape_of t c.self.invariant.tree) c.args.edge next.from))) in
    let found : c.index.result.now ≡ place_by (lowered t q c.args.suffix c.args.old) c.args.edge = search (rules, get_or_default c.move_edge.new.places.items c.number-number.result c.index.result.now no_place in_places, moved, number) in
    let places : c.push_places.new.places.items ≡ set_place t.inputs (moved_edge t.inputs t.places (edge_at t.spanning q) q (length t.nodes)) c.args.edge (record { output = c.index.result.now.output; node = length t.nodes + 1 }) ++ replicate t.inputs no_place = search (rules, moved, number) in
    let spanning : c.push_reserved-2.new.self.items ≡ t.spanning ++ c.args.edge ∷ [] = search rules in
    subst (λ (u : TreeState). tree_of s.inputs s.outputs s.most c.push.new.self c.split_leaf.new.self.items c.push_reserved.new.self.items c.push_places.new.places.items c.push_reserved-2.new.self.items s.refinements ≡ split_tree u c.args.edge output q c.args.suffix c.args.old c.args.new) c.self.view_is
    (split_value t c.args.edge output q c.args.suffix c.args.old c.args.new c.self.invariant.tree next c.push.new.self c.split_leaf.new.self.items c.push_reserved.new.self.items c.push_places.new.places.items c.push_reserved-2.new.self.items c.index.result.now.output
    access nodes leaves places (ap (λ (p : Place). p.output) found) spanning)

pub returns-clause-tree : goal.returns-clause-tree
returns-clause-tree c =
    let s = c.self.inside in
    let t : TreeState = c.args.self.now in
    let g : IsTree t = subst (λ (u : TreeState). IsTree u) c.self.view_is c.self.invariant.tree in
    let output = c.requires.next.0 in
    let next = c.requires.next.1 in
    let nodes : length s.nodes.items < 4294967294 = search rules in
    let small : length t.nodes + 2 < 2 ^ 32 = subst (λ (u : TreeState). length u.nodes + 2 < 2 ^ 32) c.self.view_is (omega (arith, nodes)) in
    subst (λ (u : TreeState). IsTree u) (sym (returns-clause-ok c output next)) (split_is_tree t c.args.edge output c.args.target c.args.suffix c.args.old c.args.new g next c.requires.room small)

pub push_split-requires : goal.push_split-requires
push_split-requires c =
    let s = c.self.inside in
    let t : TreeState = tree_of s.inputs s.outputs s.most s.access s.nodes.items s.leaves.items s.places.items s.spanning.items s.refinements in
    let g = c.self.invariant.tree in
    let a = c.self.invariant.arrivals in
    let q : ℕ = c.args.target in
    let next = (subst (λ (u : TreeState). (output : ℕ) × IsNextSplit u c.args.edge output c.args.target c.args.suffix c.args.old c.args.new) (sym c.self.view_is) c.requires.next).1 in
    let room : length t.access < t.most = subst (λ (u : TreeState). length u.access < u.most) (sym c.self.view_is) c.requires.room in
    let in_spanning : q < length s.spanning.items = omega (arith, next.target, g.each_edge) in
    let edge : c.index-reached.result.now ≡ edge_at t.spanning q = search (rules, get_or_default s.spanning.items q c.index-reached.result.now no_edge in_spanning) in
    let reached : c.number.result ≡ (edge_at t.spanning q).state * t.inputs + (edge_at t.spanning q).letter = c.number.ensures ∙ ap (λ (e : Edge). e.state * t.inputs + e.letter) edge in
    let number : c.number-number.result ≡ c.args.edge.state * t.inputs + c.args.edge.letter = c.number-number.ensures in
    let first : c.len.result ≡ length t.places = search (rules, moved_long t c.args.target c.index-reached.result.now) in
    let letters : c.from-letters.result ≡ t.inputs = search rules in
    let count : c.len-count.result ≡ length t.access = search (rules, g.each_leaf) in
    let shape = shape_of t g in
    let inside = place_inside t shape c.args.edge next.from in
    let edge_in : 0 < q → (edge_at t.spanning q).state * t.inputs + (edge_at t.spanning q).letter < length t.places = edge_inside t q c.args.suffix c.args.old shape next.target next.letters next.some next.old_size in
    let room_is = room_below t s.arrivals g a room in
    let owners = a.owners in
    let target = next.target in
    record {
      few = cells_few t s.arrivals g a;
      list = omega (arith, target, owners, room);
      edge = λ some. (
        subst (λ (k : ℕ). k < s.arrivals.cells) (sym reached) (cell_below t s.arrivals g a _ (edge_in some)),
        subst (λ (k : ℕ). owner_of s.arrivals k ≡ Some (q + 1)) (sym reached) (edge_owner t s.arrivals g a q some target),
      );
      was = subst (λ (k : ℕ). owner_of s.arrivals k ≡ Some (q + 1)) (sym number) (target_owner t s.arrivals g a c.args.edge _ q c.args.suffix c.args.old c.args.new next);
      apart = λ some same. not_reached_so t c.args.edge _ q c.args.suffix c.args.old c.args.new shape next some (sym number ∙ (same ∙ reached));
      before = omega (arith, number, first, inside);
      cells = omega (arith, room_is, first, letters);
      new = omega (arith, count, owners, room);
      free = λ k ge lt. a.free k (omega (arith, ge, first));
      inside = λ some. let lt = edge_in some in omega (arith, reached, first, lt);
    }

pub invariant_of-self-2 : goal.invariant_of-self-2
invariant_of-self-2 c =
    let s = c.self.inside in
    let t : TreeState = tree_of s.inputs s.outputs s.most s.access s.nodes.items s.leaves.items s.places.items s.spanning.items s.refinements in
    let g = c.self.invariant.tree in
    let q : ℕ = c.args.target in
    let output = c.requires.next.0 in
    let next = subst (λ (u : TreeState). IsNextSplit u c.args.edge output c.args.target c.args.suffix c.args.old c.args.new) (sym c.self.view_is) c.requires.next.1 in
    let in_spanning : q < length s.spanning.items = omega (arith, next.target, g.each_edge) in
    let edge : c.index-reached.result.now ≡ edge_at t.spanning q = search (rules, get_or_default s.spanning.items q c.index-reached.result.now no_edge in_spanning) in
    let reached : c.number.result ≡ (edge_at t.spanning q).state * t.inputs + (edge_at t.spanning q).letter = c.number.ensures ∙ ap (λ (e : Edge). e.state * t.inputs + e.letter) edge in
    let number : c.number-number.result ≡ c.args.edge.state * t.inputs + c.args.edge.letter = c.number-number.ensures in
    let first : c.len.result ≡ length t.places = search (rules, moved_long t c.args.target c.index-reached.result.now) in
    let letters : c.from-letters.result ≡ t.inputs = search rules in
    let count : c.len-count.result ≡ length t.access = search (rules, g.each_leaf) in
    let split : HasSplitState s.arrivals c.push_split.new.self q ((edge_at t.spanning q).state * t.inputs + (edge_at t.spanning q).letter) (c.args.edge.state * t.inputs + c.args.edge.letter) (length t.access + 1) (length t.places) (length t.places + t.inputs) =
    split_state_at s.arrivals c.push_split.new.self q reached number count first letters c.push_split.ensures in
    record {
      tree = returns-clause-tree c;
      arrivals = subst (λ (u : TreeState). AreArrivals u c.push_split.new.self) (sym (returns-clause-ok c output c.requires.next.1 ∙ ap (λ (v : TreeState). split_tree v c.args.edge output q c.args.suffix c.args.old c.args.new) (sym c.self.view_is)))
          (split_listed t s.arrivals c.push_split.new.self c.args.edge output q c.args.suffix c.args.old c.args.new (shape_of t g) c.self.invariant.arrivals next split);
    }

pub invariant_of-self : goal.invariant_of-self
invariant_of-self c =
    let s = c.self.inside in
    let t : TreeState = tree_of s.inputs s.outputs s.most s.access s.nodes.items s.leaves.items s.places.items s.spanning.items s.refinements in
    let r = c.make_room.ensures in
    subst (λ (v : TreeState). IsListedTree v s.arrivals) (sym (same_vectors t s.access c.make_room.new.nodes.items c.make_room.new.leaves.items c.make_room.new.places.items c.make_room.new.spanning.items refl r.nodes r.leaves r.places r.spanning)) c.self.invariant

pub returns-in_err-make_room-clause-err : goal.returns-in_err-make_room-clause-err
returns-in_err-make_room-clause-err c =
    let s = c.self.inside in
    let t : TreeState = tree_of s.inputs s.outputs s.most s.access s.nodes.items s.leaves.items s.places.items s.spanning.items s.refinements in
    let r = c.make_room.ensures in
    on_err _ c.from_residual.result (same_vectors t s.access c.make_room.new.nodes.items c.make_room.new.leaves.items c.make_room.new.places.items c.make_room.new.spanning.items refl r.nodes r.leaves r.places r.spanning ∙ c.self.view_is)

pub returns-in_err-make_room-clause-tree : goal.returns-in_err-make_room-clause-tree
returns-in_err-make_room-clause-tree c =
    let s = c.self.inside in
    let t : TreeState = tree_of s.inputs s.outputs s.most s.access s.nodes.items s.leaves.items s.places.items s.spanning.items s.refinements in
    let r = c.make_room.ensures in
    subst (λ (v : TreeState). IsTree v) (sym (same_vectors t s.access c.make_room.new.nodes.items c.make_room.new.leaves.items c.make_room.new.places.items c.make_room.new.spanning.items refl r.nodes r.leaves r.places r.spanning)) c.self.invariant.tree

pub invariant_of-self-in_err-push : goal.invariant_of-self-in_err-push
invariant_of-self-in_err-push c =
    let s = c.self.inside in
    let t : TreeState = tree_of s.inputs s.outputs s.most s.access s.nodes.items s.leaves.items s.places.items s.spanning.items s.refinements in
    let r = c.make_room.ensures in
    let access : c.push.new.self ≡ s.access = search rules in
    subst (λ (v : TreeState). IsListedTree v s.arrivals) (sym (same_vectors t c.push.new.self c.make_room.new.nodes.items c.make_room.new.leaves.items c.make_room.new.places.items c.make_room.new.spanning.items access r.nodes r.leaves r.places r.spanning)) c.self.invariant

pub returns-in_err-push-clause-tree : goal.returns-in_err-push-clause-tree
returns-in_err-push-clause-tree c =
    let s = c.self.inside in
    let t : TreeState = tree_of s.inputs s.outputs s.most s.access s.nodes.items s.leaves.items s.places.items s.spanning.items s.refinements in
    let r = c.make_room.ensures in
    let access : c.push.new.self ≡ s.access = search rules in
    subst (λ (v : TreeState). IsTree v) (sym (same_vectors t c.push.new.self c.make_room.new.nodes.items c.make_room.new.leaves.items c.make_room.new.places.items c.make_room.new.spanning.items access r.nodes r.leaves r.places r.spanning)) c.self.invariant.tree
