-- What a tree's vectors hold.
use Rattle.std.proofs.Common.{◌≡◌, ℕ, zero, suc, ◌+◌, ◌*◌, ◌^◌, ◌<◌, ◌≤◌, Bool, true, false, if◌then◌else◌, List, [], ◌∷◌, ◌++◌, length, replicate, get_or, set, drop, Option, Some, refl, ap, ap₂, sym, ◌∙◌, subst, arith}
use Rattle.std.proofs.lemmas.List.{get_or_default}
use Rattle.lw_tree.specs.Tree.{TreeState, no_node, no_place, node_at, place_at, leaf_at, edge_at, IsTree, IsLive, temporaries, is_temporary}
use Rattle.lw_tree.specs.bodies.Nodes.{tree_of}
use Rattle.lw_tree.specs.bodies.Steps.{set_place, with_place, leaf_below, moved_edge, inner_node, lowered, IsNextSplit, split_tree, placed, IsNextState, with_state}
use Rattle.lw_tree.specs.bodies.Transitions.{IsTransition, word_of, place_by, is_open_by}
use Rattle.lw_tree.specs.declared.nodes.Node.{Node}
use Rattle.lw_tree.specs.declared.transitions.Place.{Place}
use Rattle.lw_tree.specs.declared.transitions.Edge.{Edge}
use Rattle.lw_tree.proofs.NodeLemmas.{live_within}
use Rattle.lw_tree.proofs.ShapeLemmas.{shape_of, tree_of_shape, all_places, place_inside, placed_shape, state_shape, state_two}
use Rattle.lw_tree.proofs.LowerLemmas.{at_leaf, same_place, lower_count, lower_shape, split_next, split_two}
use Rattle.std.proofs.lemmas.List.{length-append}

-- an element that was read
pub place_read : (places : List Place) (k : ℕ) (p : Place) → k < length places → p ≡ get_or places k p → p ≡ place_at places k
place_read places k p inside at = at ∙ get_or_default places k p no_place inside

pub node_read : (nodes : List Node) (n : ℕ) (m : Node) → n < length nodes → m ≡ get_or nodes n m → m ≡ node_at nodes n
node_read nodes n m inside at = at ∙ get_or_default nodes n m no_node inside

-- the place of a transition is at a node of the tree
module _ (t : TreeState) (g : IsTree t) (edge : Edge) (k : ℕ) (p : Place) (from : IsTransition t edge) (number : k ≡ edge.state * t.inputs + edge.letter) (at : p ≡ get_or t.places k p) where
  pub found_inside : k < length t.places
  found_inside = subst (λ (n : ℕ). n < length t.places) (sym number) (place_inside t (shape_of t g) edge from)

  pub found_place : p ≡ place_by t edge
  found_place = place_read t.places k p found_inside at ∙ ap (place_at t.places) number

  pub found_live : IsLive (node_at t.nodes p.node).content
  found_live = subst (λ (q : Place). IsLive (node_at t.nodes q.node).content) (sym found_place) (all_places t (shape_of t g) (edge.state * t.inputs + edge.letter)).live

  pub found_node : p.node < length t.nodes
  found_node = live_within t.nodes p.node found_live

pub place_node : (t : TreeState) (k : ℕ) (p : Place) → IsTree t → k < length t.places → p ≡ get_or t.places k p → p.node < length t.nodes
place_node t k p g inside at = live_within t.nodes p.node (subst (λ (q : Place). IsLive (node_at t.nodes q.node).content) (sym (place_read t.places k p inside at)) (all_places t (shape_of t g) k).live)

-- how many temporary nodes there are, node by node
abbrev one_if : Bool → ℕ
one_if b = if b then 1 else 0

at_node : (nodes : List Node) (i : ℕ) (d : Node) → i < length nodes → temporaries (drop i nodes) ≡ (if is_temporary (get_or nodes i d).content then 1 else 0) + temporaries (drop (i + 1) nodes)
at_node [] i d lt = absurd (omega (arith, lt))
at_node (n ∷ nodes) zero d lt = refl
at_node (n ∷ nodes) (suc i) d lt =
    let next : suc (i + 1) ≡ suc i + 1 = omega arith in
    subst (λ (j : ℕ). temporaries (drop i nodes) ≡ (if is_temporary (get_or nodes i d).content then 1 else 0) + temporaries (drop j (n ∷ nodes))) next (at_node nodes i d (omega (arith, lt)))

pub few_temporaries : (nodes : List Node) → temporaries nodes ≤ length nodes
few_temporaries [] = omega arith
few_temporaries (n ∷ nodes) =
    let rest = few_temporaries nodes in
    let one = one_at_most (is_temporary n.content) in
    omega (arith, rest, one)
  where
    one_at_most : (b : Bool) → (if b then 1 else 0) ≤ 1
    one_at_most true = omega arith
    one_at_most false = omega arith

pub one_more_temporary : (nodes : List Node) (i count : ℕ) (n : Node) → i < length nodes → n ≡ get_or nodes i n → is_temporary n.content ≡ true → temporaries nodes ≡ count + temporaries (drop i nodes) → temporaries nodes ≡ (count + 1) + temporaries (drop (i + 1) nodes)
one_more_temporary nodes i count n lt at is whole =
    let here = at_node nodes i n lt in
    let one : one_if (is_temporary (get_or nodes i n).content) ≡ 1 = ap (λ (m : Node). one_if (is_temporary m.content)) (sym at) ∙ ap one_if is in
    omega (arith, whole, here, one)

pub no_more_temporary : (nodes : List Node) (i count : ℕ) (n : Node) → i < length nodes → n ≡ get_or nodes i n → is_temporary n.content ≡ false → temporaries nodes ≡ count + temporaries (drop i nodes) → temporaries nodes ≡ count + temporaries (drop (i + 1) nodes)
no_more_temporary nodes i count n lt at is whole =
    let here = at_node nodes i n lt in
    let none : one_if (is_temporary (get_or nodes i n).content) ≡ 0 = ap (λ (m : Node). one_if (is_temporary m.content)) (sym at) ∙ ap one_if is in
    omega (arith, whole, here, none)

-- a tree with an open transition at another node is one
pub placed_is_tree : (t : TreeState) (edge : Edge) (output n : ℕ) → IsTree t → IsTransition t edge → is_open_by t edge ≡ true → output < t.outputs → IsLive (node_at t.nodes n).content → IsTree (with_place t edge output n)
placed_is_tree t edge output n g from stands below live =
    tree_of_shape t (with_place t edge output n) g (placed_shape t edge output n (shape_of t g) from stands below live) g.nodes.two refl refl refl refl (omega arith) g.few g.few_nodes

-- a tree with one state more is one, where it keeps the limits
pub state_is_tree : (t : TreeState) (edge : Edge) (output : ℕ) (branch : List ℕ) → IsTree t → IsNextState t edge output branch → length t.access < t.most → length t.nodes + 1 < 2 ^ 32 → IsTree (with_state t edge output branch)
state_is_tree t edge output branch g next room small =
    let long = length-append t.access (word_of t edge ∷ []) in
    let nodes = length-append t.nodes (leaf_below (place_by t edge).node branch (length t.access) ∷ []) in
    tree_of_shape t (with_state t edge output branch) g (state_shape t edge output branch (shape_of t g) next) (state_two t edge output branch (shape_of t g) next g.nodes.two) refl refl refl refl (omega (arith, long)) (omega (arith, long, room)) (subst (λ (n : ℕ). n < 2 ^ 32) (sym nodes) small)

module _ (t : TreeState) (edge : Edge) (output q : ℕ) (suffix old new : List ℕ) (g : IsTree t) (next : IsNextSplit t edge output q suffix old new) where
  abbrev leaf : ℕ
  leaf = leaf_at t.leaves q

  lowered_count : length (lowered t q suffix old).nodes ≡ length t.nodes + 1
  lowered_count = lower_count t q suffix old (shape_of t g) next.target next.letters next.some next.old_size

  pub split_is_tree : length t.access < t.most → length t.nodes + 2 < 2 ^ 32 → IsTree (split_tree t edge output q suffix old new)
  split_is_tree room small =
      let long = length-append t.access (word_of t edge ∷ []) in
      let nodes = length-append (lowered t q suffix old).nodes (leaf_below (place_by (lowered t q suffix old) edge).node new (length t.access) ∷ []) in
      let all : length (split_tree t edge output q suffix old new).nodes ≡ length t.nodes + 2 = omega (arith, nodes, lowered_count) in
      tree_of_shape t (split_tree t edge output q suffix old new) g (state_shape (lowered t q suffix old) edge output new (lower_shape t q suffix old (shape_of t g) next.target next.letters next.some next.old_size) (split_next t edge output q suffix old new (shape_of t g) next)) (split_two t edge output q suffix old new (shape_of t g) next g.nodes.two) refl refl refl refl (omega (arith, long)) (omega (arith, long, room)) (subst (λ (n : ℕ). n < 2 ^ 32) (sym all) small)

  -- the vectors once all is pushed
  pub split_value : (access : List (List ℕ)) (nodes : List Node) (leaves : List ℕ) (places : List Place) (spanning : List Edge) (out : Option ℕ)
      → access ≡ t.access ++ word_of t edge ∷ [] → nodes ≡ (set t.nodes leaf (inner_node (node_at t.nodes leaf) suffix) ++ leaf_below leaf old q ∷ []) ++ leaf_below leaf new (length t.leaves) ∷ []
      → leaves ≡ set t.leaves q (length t.nodes) ++ (length t.nodes + 1) ∷ []
      → places ≡ set_place t.inputs (moved_edge t.inputs t.places (edge_at t.spanning q) q (length t.nodes)) edge (record { output = out; node = length t.nodes + 1 }) ++ replicate t.inputs no_place
      → out ≡ (place_by (lowered t q suffix old) edge).output → spanning ≡ t.spanning ++ edge ∷ []
      → tree_of t.inputs t.outputs t.most access nodes leaves places spanning t.refinements ≡ split_tree t edge output q suffix old new
  split_value access nodes leaves places spanning out e f h i o j =
      let stands = at_leaf t edge output q suffix old new (shape_of t g) next in
      let some : out ≡ Some output = o ∙ (ap (λ (p : Place). p.output) (same_place t edge output q suffix old new (shape_of t g) next) ∙ next.known) in
      let base : TreeState = lowered t q suffix old in
      let nodes_are : nodes ≡ base.nodes ++ leaf_below (place_by base edge).node new (length t.access) ∷ [] = f ∙ ap₂ (λ (p n : ℕ). base.nodes ++ leaf_below p new n ∷ []) (sym stands) g.each_leaf in
      let leaves_are : leaves ≡ base.leaves ++ length base.nodes ∷ [] = h ∙ ap (λ (n : ℕ). base.leaves ++ n ∷ []) (sym lowered_count) in
      let places_are : places ≡ set_place t.inputs base.places edge (placed output (length base.nodes)) ++ replicate t.inputs no_place =
      i ∙ ap₂ (λ (y : Option ℕ) (n : ℕ). set_place t.inputs base.places edge (record { output = y; node = n }) ++ replicate t.inputs no_place) some (sym lowered_count) in
      ap (λ (l : List (List ℕ)). tree_of t.inputs t.outputs t.most l nodes leaves places spanning t.refinements) e
      ∙ (ap (λ (l : List Node). tree_of t.inputs t.outputs t.most (t.access ++ word_of t edge ∷ []) l leaves places spanning t.refinements) nodes_are
      ∙ (ap (λ (l : List ℕ). tree_of t.inputs t.outputs t.most (t.access ++ word_of t edge ∷ []) (base.nodes ++ leaf_below (place_by base edge).node new (length t.access) ∷ []) l places spanning t.refinements) leaves_are
      ∙ (ap (λ (l : List Place). tree_of t.inputs t.outputs t.most (t.access ++ word_of t edge ∷ []) (base.nodes ++ leaf_below (place_by base edge).node new (length t.access) ∷ []) (base.leaves ++ length base.nodes ∷ []) l spanning t.refinements) places_are
      ∙ ap (λ (l : List Edge). tree_of t.inputs t.outputs t.most (t.access ++ word_of t edge ∷ []) (base.nodes ++ leaf_below (place_by base edge).node new (length t.access) ∷ []) (base.leaves ++ length base.nodes ∷ []) (set_place t.inputs base.places edge (placed output (length base.nodes)) ++ replicate t.inputs no_place) l t.refinements) j)))

-- the vectors of a tree with one state more
pub state_value : (t : TreeState) (edge : Edge) (output : ℕ) (branch : List ℕ) (access : List (List ℕ)) (nodes : List Node) (leaves : List ℕ) (places : List Place) (spanning : List Edge) (parent : ℕ)
    → IsTree t → access ≡ t.access ++ word_of t edge ∷ [] → nodes ≡ t.nodes ++ leaf_below parent branch (length t.leaves) ∷ [] → parent ≡ (place_by t edge).node → leaves ≡ t.leaves ++ length t.nodes ∷ []
    → places ≡ set_place t.inputs t.places edge (placed output (length t.nodes)) ++ replicate t.inputs no_place → spanning ≡ t.spanning ++ edge ∷ []
    → tree_of t.inputs t.outputs t.most access nodes leaves places spanning t.refinements ≡ with_state t edge output branch
state_value t edge output branch access nodes leaves places spanning parent g e f p h i j =
    let nodes_are : nodes ≡ t.nodes ++ leaf_below (place_by t edge).node branch (length t.access) ∷ [] = f ∙ ap₂ (λ (m n : ℕ). t.nodes ++ leaf_below m branch n ∷ []) p g.each_leaf in
    ap (λ (l : List (List ℕ)). tree_of t.inputs t.outputs t.most l nodes leaves places spanning t.refinements) e
    ∙ (ap (λ (l : List Node). tree_of t.inputs t.outputs t.most (t.access ++ word_of t edge ∷ []) l leaves places spanning t.refinements) nodes_are
    ∙ (ap (λ (l : List ℕ). tree_of t.inputs t.outputs t.most (t.access ++ word_of t edge ∷ []) (t.nodes ++ leaf_below (place_by t edge).node branch (length t.access) ∷ []) l places spanning t.refinements) h
    ∙ (ap (λ (l : List Place). tree_of t.inputs t.outputs t.most (t.access ++ word_of t edge ∷ []) (t.nodes ++ leaf_below (place_by t edge).node branch (length t.access) ∷ []) (t.leaves ++ length t.nodes ∷ []) l spanning t.refinements) i
    ∙ ap (λ (l : List Edge). tree_of t.inputs t.outputs t.most (t.access ++ word_of t edge ∷ []) (t.nodes ++ leaf_below (place_by t edge).node branch (length t.access) ∷ []) (t.leaves ++ length t.nodes ∷ []) (set_place t.inputs t.places edge (placed output (length t.nodes)) ++ replicate t.inputs no_place) l t.refinements) j)))
