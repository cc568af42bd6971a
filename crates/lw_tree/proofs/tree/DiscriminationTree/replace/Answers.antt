use Rattle.std.proofs.Common.{◌≡◌, ◌<◌, ◌≤◌, ℕ, List, length, Ok, sym, ◌∙◌, subst}
use Rattle.lw_words.specs.Word.{answers_of}
use Rattle.lw_words.specs.declared.memory.NoMemory.{NoMemory}
use Rattle.lw_tree.specs.Blocks.{HasReplaced}
use Rattle.lw_tree.specs.Tree.{TreeState, node_at, place_at, IsTree}
use Rattle.lw_tree.specs.bodies.Arrivals.{HasFilled, list_of_place}
use Rattle.lw_tree.specs.declared.transitions.Place.{Place}
use Rattle.lw_tree.proofs.ListedLemmas.{few_cells, places_fit, nodes_exist, lists_exist, filled_listed}
use Rattle.lw_tree.specs.bodies.Nodes.{tree_of}
use Rattle.lw_tree.proofs.PlantLemmas.{planted}
use Rattle.lw_tree.proofs.ReplaceLemmas.{planting, at_hand, replaced_nodes, replaced_lower, leaves_some, edges_each, edges_within, replaced_tree, replaced_has}
use Rattle.lw_tree.proofs.tree.DiscriminationTree.replace.Goals as goal

pub place_edges-requires-clause-some : goal.place_edges-requires-clause-some
place_edges-requires-clause-some c =
    let p = planting c.self.view_is c.self.invariant.tree c.requires.answers c.requires.read c.requires.may c.in_ok-below.ensures.marks c.in_ok-below.ensures.size c.deref.ensures.value c.in_ok-sprout.ensures.few c.in_ok-sprout.ensures.grown in
    let h = at_hand c.args.root c.self.view_is c.deref-2.ensures.value c.deref-3.ensures.value c.in_ok-places.ensures c.deref-4.ensures.value c.deref-5.ensures.value in
    leaves_some p h

pub place_edges-requires-clause-each : goal.place_edges-requires-clause-each
place_edges-requires-clause-each c =
    let p = planting c.self.view_is c.self.invariant.tree c.requires.answers c.requires.read c.requires.may c.in_ok-below.ensures.marks c.in_ok-below.ensures.size c.deref.ensures.value c.in_ok-sprout.ensures.few c.in_ok-sprout.ensures.grown in
    let h = at_hand c.args.root c.self.view_is c.deref-2.ensures.value c.deref-3.ensures.value c.in_ok-places.ensures c.deref-4.ensures.value c.deref-5.ensures.value in
    edges_each p h

pub place_edges-requires-clause-within : goal.place_edges-requires-clause-within
place_edges-requires-clause-within c =
    let p = planting c.self.view_is c.self.invariant.tree c.requires.answers c.requires.read c.requires.may c.in_ok-below.ensures.marks c.in_ok-below.ensures.size c.deref.ensures.value c.in_ok-sprout.ensures.few c.in_ok-sprout.ensures.grown in
    let h = at_hand c.args.root c.self.view_is c.deref-2.ensures.value c.deref-3.ensures.value c.in_ok-places.ensures c.deref-4.ensures.value c.deref-5.ensures.value in
    edges_within p h

pub replace-requires-clause-lower : goal.replace-requires-clause-lower
replace-requires-clause-lower c =
    let p = planting c.self.view_is c.self.invariant.tree c.requires.answers c.requires.read c.requires.may c.in_ok-below.ensures.marks c.in_ok-below.ensures.size c.deref.ensures.value c.in_ok-sprout.ensures.few c.in_ok-sprout.ensures.grown in
    replaced_lower p c.self.view_is c.in_ok-reserve.ensures.items c.deref-6.ensures.value

pub fill-requires : goal.fill-requires
fill-requires c =
    let s = c.self.inside in
    let p = planting c.self.view_is c.self.invariant.tree c.requires.answers c.requires.read c.requires.may c.in_ok-below.ensures.marks c.in_ok-below.ensures.size c.deref.ensures.value c.in_ok-sprout.ensures.few c.in_ok-sprout.ensures.grown in
    let h = at_hand c.args.root c.self.view_is c.deref-2.ensures.value c.deref-3.ensures.value c.in_ok-places.ensures c.deref-4.ensures.value c.deref-5.ensures.value in
    let nodes = c.replace.ensures ∙ replaced_nodes p c.self.view_is c.in_ok-reserve.ensures.items c.deref-6.ensures.value in
    let t : TreeState = planted (tree_of s.inputs s.outputs s.most s.access s.nodes.items s.leaves.items s.places.items s.spanning.items s.refinements) c.replace.new.self.items c.in_ok-sprout.sprout.leaves.items c.place_edges.new.places.items in
    let g : IsTree t = subst (λ (v : TreeState). IsTree (planted v c.replace.new.self.items c.in_ok-sprout.sprout.leaves.items c.place_edges.new.places.items)) (sym c.self.view_is) (replaced_tree p h c.place_edges.ensures nodes) in
    let v = c.in_ok-arrivals.arrivals in
    let a = c.in_ok-arrivals.ensures in
    let seen : c.deref-7.result.now ≡ t.places = c.deref-7.ensures.value in
    record {
      free = a.free;
      few = few_cells t v g a.owners a.cells;
      cells = subst (λ (l : List Place). length l ≤ v.cells) (sym seen) (places_fit t v g a.owners a.cells);
      nodes = subst (λ (l : List Place). (k : ℕ) → k < length l → (place_at l k).node < length t.nodes) (sym seen) (nodes_exist t v g a.owners a.cells);
      lists = subst (λ (l : List Place). (k : ℕ) → k < length l → list_of_place (node_at t.nodes) (place_at l k) < length v.lists) (sym seen) (lists_exist t v g a.owners a.cells);
    }

pub invariant_of-self-2 : goal.invariant_of-self-2
invariant_of-self-2 c =
    let s = c.self.inside in
    let p = planting c.self.view_is c.self.invariant.tree c.requires.answers c.requires.read c.requires.may c.in_ok-below.ensures.marks c.in_ok-below.ensures.size c.deref.ensures.value c.in_ok-sprout.ensures.few c.in_ok-sprout.ensures.grown in
    let h = at_hand c.args.root c.self.view_is c.deref-2.ensures.value c.deref-3.ensures.value c.in_ok-places.ensures c.deref-4.ensures.value c.deref-5.ensures.value in
    let nodes = c.replace.ensures ∙ replaced_nodes p c.self.view_is c.in_ok-reserve.ensures.items c.deref-6.ensures.value in
    let t : TreeState = planted (tree_of s.inputs s.outputs s.most s.access s.nodes.items s.leaves.items s.places.items s.spanning.items s.refinements) c.replace.new.self.items c.in_ok-sprout.sprout.leaves.items c.place_edges.new.places.items in
    let g : IsTree t = subst (λ (v : TreeState). IsTree (planted v c.replace.new.self.items c.in_ok-sprout.sprout.leaves.items c.place_edges.new.places.items)) (sym c.self.view_is) (replaced_tree p h c.place_edges.ensures nodes) in
    let v = c.in_ok-arrivals.arrivals in
    let a = c.in_ok-arrivals.ensures in
    let seen : c.deref-7.result.now ≡ t.places = c.deref-7.ensures.value in
    record {
      tree = g;
      arrivals = filled_listed t v c.fill.new.self a.owners a.cells (subst (λ (l : List Place). HasFilled v c.fill.new.self (node_at t.nodes) l (length l)) seen c.fill.ensures);
    }

pub returns : goal.returns
returns c =
    let p = planting c.self.view_is c.self.invariant.tree c.requires.answers c.requires.read c.requires.may c.in_ok-below.ensures.marks c.in_ok-below.ensures.size c.deref.ensures.value c.in_ok-sprout.ensures.few c.in_ok-sprout.ensures.grown in
    let h = at_hand c.args.root c.self.view_is c.deref-2.ensures.value c.deref-3.ensures.value c.in_ok-places.ensures c.deref-4.ensures.value c.deref-5.ensures.value in
    let nodes = c.replace.ensures ∙ replaced_nodes p c.self.view_is c.in_ok-reserve.ensures.items c.deref-6.ensures.value in
    subst (λ (v : TreeState). HasReplaced {E = NoMemory} (answers_of c.args.cache.now.kept) c.args.root c.args.word c.args.self.now (planted v c.replace.new.self.items c.in_ok-sprout.sprout.leaves.items c.place_edges.new.places.items) (Ok tt)) (sym c.self.view_is)
    (replaced_has p h c.place_edges.ensures nodes)
