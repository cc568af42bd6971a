use Rattle.std.proofs.Common.{rules, ℕ, Some, ◌≡◌, ◌+◌, ◌*◌, ◌^◌, ◌<◌, [], ◌∷◌, ◌++◌, length, replicate, refl, sym, ◌∙◌, ap, subst, arith}
use Rattle.lw_links.specs.Owners.{owner_of}
use Rattle.lw_tree.specs.Tree.{TreeState, no_place, node_at, IsTree}
use Rattle.lw_tree.specs.bodies.Arrivals.{AreArrivals, IsListedTree, HasState}
use Rattle.lw_tree.specs.bodies.Nodes.{tree_of}
use Rattle.lw_tree.specs.bodies.Steps.{set_place, placed, leaf_below, IsNextState, with_state}
use Rattle.lw_tree.specs.bodies.Transitions.{word_of, place_by}
use Rattle.lw_tree.specs.declared.transitions.Place.{Place}
use Rattle.lw_tree.proofs.FieldLemmas.{found_place, state_is_tree, state_value}
use Rattle.lw_tree.proofs.ArrivalLemmas.{has_state_at}
use Rattle.lw_tree.proofs.ListedLemmas.{cells_few, room_below, open_owner, state_listed}
use Rattle.lw_tree.proofs.PlaceLemmas.{inner_open}
use Rattle.lw_tree.proofs.ShapeLemmas.{shape_of, place_inside}
use Rattle.lw_tree.proofs.RoomLemmas.{same_vectors, on_err}
use Rattle.lw_tree.proofs.tree.DiscriminationTree.push_state.Goals as goal

pub returns-clause-ok : goal.returns-clause-ok
returns-clause-ok c =
    let s = c.self.inside in
    let t : TreeState = tree_of s.inputs s.outputs s.most s.access s.nodes.items s.leaves.items s.places.items s.spanning.items s.refinements in
    let next = subst (λ (u : TreeState). IsNextState u c.args.edge c.args.output c.args.branch) (sym c.self.view_is) c.requires.next in
    let word : c.args.word ≡ word_of t c.args.edge = subst (λ (u : TreeState). c.args.word ≡ word_of u c.args.edge) (sym c.self.view_is) c.requires.word in
    let access : c.push.new.self ≡ s.access ++ word_of t c.args.edge ∷ [] = search (rules, word) in
    let place = found_place t c.self.invariant.tree c.args.edge c.number-number.result c.index.result.now next.from c.number-number.ensures (search rules) in
    let nodes : c.push_leaf.new.self.items ≡ t.nodes ++ leaf_below c.index.result.now.node c.args.branch (length t.leaves) ∷ [] = search rules in
    let leaves : c.push_reserved.new.self.items ≡ t.leaves ++ length t.nodes ∷ [] = search rules in
    let places : c.push_places.new.places.items ≡ set_place t.inputs t.places c.args.edge (placed c.args.output (length t.nodes)) ++ replicate t.inputs no_place = search (rules, c.number-number.ensures) in
    let spanning : c.push_reserved-2.new.self.items ≡ t.spanning ++ c.args.edge ∷ [] = search rules in
    subst (λ (u : TreeState). tree_of s.inputs s.outputs s.most c.push.new.self c.push_leaf.new.self.items c.push_reserved.new.self.items c.push_places.new.places.items c.push_reserved-2.new.self.items s.refinements ≡ with_state u c.args.edge c.args.output c.args.branch) c.self.view_is
    (state_value t c.args.edge c.args.output c.args.branch c.push.new.self c.push_leaf.new.self.items c.push_reserved.new.self.items c.push_places.new.places.items c.push_reserved-2.new.self.items c.index.result.now.node c.self.invariant.tree
    access nodes (ap (λ (p : Place). p.node) place) leaves places spanning)

pub returns-clause-tree : goal.returns-clause-tree
returns-clause-tree c =
    let s = c.self.inside in
    let t : TreeState = c.args.self.now in
    let g : IsTree t = subst (λ (u : TreeState). IsTree u) c.self.view_is c.self.invariant.tree in
    let nodes : length s.nodes.items < 4294967295 = search rules in
    let small : length t.nodes + 1 < 2 ^ 32 = subst (λ (u : TreeState). length u.nodes + 1 < 2 ^ 32) c.self.view_is (omega (arith, nodes)) in
    subst (λ (u : TreeState). IsTree u) (sym (returns-clause-ok c)) (state_is_tree t c.args.edge c.args.output c.args.branch g c.requires.next c.requires.room small)

pub push_state-requires : goal.push_state-requires
push_state-requires c =
    let s = c.self.inside in
    let t : TreeState = tree_of s.inputs s.outputs s.most s.access s.nodes.items s.leaves.items s.places.items s.spanning.items s.refinements in
    let g = c.self.invariant.tree in
    let a = c.self.invariant.arrivals in
    let edge = c.args.edge in
    let next = subst (λ (u : TreeState). IsNextState u c.args.edge c.args.output c.args.branch) (sym c.self.view_is) c.requires.next in
    let room : length t.access < t.most = subst (λ (u : TreeState). length u.access < u.most) (sym c.self.view_is) c.requires.room in
    let number : c.number-number.result ≡ edge.state * t.inputs + edge.letter = c.number-number.ensures in
    let first : c.len-first.result ≡ length t.places = search rules in
    let letters : c.from-letters.result ≡ t.inputs = search rules in
    let state : c.len-state.result ≡ length t.leaves = search rules in
    let stands = inner_open (node_at t.nodes) (place_by t edge) next.inner in
    let inside = place_inside t (shape_of t g) edge next.from in
    let cells = room_below t s.arrivals g a room in
    let each = g.each_leaf in
    let owners = a.owners in
    record {
      was = subst (λ (k : ℕ). owner_of s.arrivals k ≡ Some 0) (sym number) (open_owner t s.arrivals g a edge next.from stands);
      few = cells_few t s.arrivals g a;
      before = omega (arith, number, first, inside);
      cells = omega (arith, cells, first, letters);
      list = omega (arith, state, each, owners, room);
      free = λ k ge lt. a.free k (omega (arith, ge, first));
    }

pub invariant_of-self-2 : goal.invariant_of-self-2
invariant_of-self-2 c =
    let s = c.self.inside in
    let t : TreeState = tree_of s.inputs s.outputs s.most s.access s.nodes.items s.leaves.items s.places.items s.spanning.items s.refinements in
    let g = c.self.invariant.tree in
    let edge = c.args.edge in
    let next = subst (λ (u : TreeState). IsNextState u c.args.edge c.args.output c.args.branch) (sym c.self.view_is) c.requires.next in
    let number : c.number-number.result ≡ edge.state * t.inputs + edge.letter = c.number-number.ensures in
    let first : c.len-first.result ≡ length t.places = search rules in
    let letters : c.from-letters.result ≡ t.inputs = search rules in
    let state : c.len-state.result ≡ length t.access = search (rules, g.each_leaf) in
    let has : HasState s.arrivals c.push_state.new.self (edge.state * t.inputs + edge.letter) (length t.access + 1) (length t.places) (length t.places + t.inputs) =
    has_state_at s.arrivals c.push_state.new.self number state first letters c.push_state.ensures in
    record {
      tree = returns-clause-tree c;
      arrivals = subst (λ (u : TreeState). AreArrivals u c.push_state.new.self) (sym (returns-clause-ok c ∙ ap (λ (v : TreeState). with_state v edge c.args.output c.args.branch) (sym c.self.view_is)))
          (state_listed t s.arrivals c.push_state.new.self edge c.args.output c.args.branch (shape_of t g) c.self.invariant.arrivals next.from has);
    }

pub invariant_of-self : goal.invariant_of-self
invariant_of-self c =
    let s = c.self.inside in
    let t : TreeState = tree_of s.inputs s.outputs s.most s.access s.nodes.items s.leaves.items s.places.items s.spanning.items s.refinements in
    let r = c.make_room.ensures in
    subst (λ (v : TreeState). IsListedTree v s.arrivals) (sym (same_vectors t s.access c.make_room.new.nodes.items c.make_room.new.leaves.items c.make_room.new.places.items c.make_room.new.spanning.items refl r.nodes r.leaves r.places r.spanning)) c.self.invariant

pub returns-in_err-make_room-clause-err : goal.returns-in_err-make_room-clause-err
returns-in_err-make_room-clause-err c =
    let s = c.self.inside in
    let t : TreeState = tree_of s.inputs s.outputs s.most s.access s.nodes.items s.leaves.items s.places.items s.spanning.items s.refinements in
    let r = c.make_room.ensures in
    on_err _ c.from_residual.result (same_vectors t s.access c.make_room.new.nodes.items c.make_room.new.leaves.items c.make_room.new.places.items c.make_room.new.spanning.items refl r.nodes r.leaves r.places r.spanning ∙ c.self.view_is)

pub returns-in_err-make_room-clause-tree : goal.returns-in_err-make_room-clause-tree
returns-in_err-make_room-clause-tree c =
    let s = c.self.inside in
    let t : TreeState = tree_of s.inputs s.outputs s.most s.access s.nodes.items s.leaves.items s.places.items s.spanning.items s.refinements in
    let r = c.make_room.ensures in
    subst (λ (v : TreeState). IsTree v) (sym (same_vectors t s.access c.make_room.new.nodes.items c.make_room.new.leaves.items c.make_room.new.places.items c.make_room.new.spanning.items refl r.nodes r.leaves r.places r.spanning)) c.self.invariant.tree

pub invariant_of-self-in_err-push : goal.invariant_of-self-in_err-push
invariant_of-self-in_err-push c =
    let s = c.self.inside in
    let t : TreeState = tree_of s.inputs s.outputs s.most s.access s.nodes.items s.leaves.items s.places.items s.spanning.items s.refinements in
    let r = c.make_room.ensures in
    let access : c.push.new.self ≡ s.access = search rules in
    subst (λ (v : TreeState). IsListedTree v s.arrivals) (sym (same_vectors t c.push.new.self c.make_room.new.nodes.items c.make_room.new.leaves.items c.make_room.new.places.items c.make_room.new.spanning.items access r.nodes r.leaves r.places r.spanning)) c.self.invariant

pub returns-in_err-push-clause-tree : goal.returns-in_err-push-clause-tree
returns-in_err-push-clause-tree c =
    let s = c.self.inside in
    let t : TreeState = tree_of s.inputs s.outputs s.most s.access s.nodes.items s.leaves.items s.places.items s.spanning.items s.refinements in
    let r = c.make_room.ensures in
    let access : c.push.new.self ≡ s.access = search rules in
    subst (λ (v : TreeState). IsTree v) (sym (same_vectors t c.push.new.self c.make_room.new.nodes.items c.make_room.new.leaves.items c.make_room.new.places.items c.make_room.new.spanning.items access r.nodes r.leaves r.places r.spanning)) c.self.invariant.tree
