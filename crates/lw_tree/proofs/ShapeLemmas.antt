-- What is so of a tree whatever its limits are, and what each step leaves of that.
use Rattle.std.proofs.Common.{◌≡◌, ◌≢◌, ⊎_elim, ℕ, suc, ◌+◌, ◌*◌, ◌^◌, ◌<◌, ◌≤◌, true, false, true≢false, List, [], ◌∷◌, ◌++◌, length, Option, Some, None, IsSome, refl, ap, sym, ◌∙◌, subst, arith}
use Rattle.std.specs.List.{All}
use Rattle.std.proofs.Math.ListN.{get_or-append}
use Rattle.std.proofs.lemmas.Bool.{cases_lt, cases_eq}
use Rattle.std.proofs.lemmas.List.{length-append, length-set}
use Rattle.std.proofs.lemmas.List.Elements.{All-push, All-get_or}
use Rattle.lw_words.specs.Word.{IsWord}
use Rattle.lw_cache.specs.Cut.{word_at}
use Rattle.lw_tree.specs.Tree.{TreeState, no_node, no_place, node_at, place_at, leaf_at, edge_at, place_of, IsLive, IsInner, HasTwo, AreLeaves, IsEdge, IsPlace, IsTree, is_open}
use Rattle.lw_tree.specs.bodies.Sprouts.{AreBranched}
use Rattle.lw_tree.specs.bodies.Steps.{placed, with_place, leaf_below, with_state, IsNextState}
use Rattle.lw_tree.specs.bodies.Transitions.{IsTransition, word_of, place_by, is_open_by}
use Rattle.lw_tree.specs.declared.nodes.Node.{Node}
use Rattle.lw_tree.specs.declared.nodes.Content.{Content}
use Rattle.lw_tree.specs.declared.nodes.Content.TheVariants.{State, Discriminator, Gone}
use Rattle.lw_tree.specs.declared.transitions.Place.{Place}
use Rattle.lw_tree.specs.declared.transitions.Edge.{Edge}
use Rattle.lw_tree.proofs.WayLemmas.{joined, KeepsNodes}
use Rattle.lw_tree.proofs.NodeLemmas.{Updates, everywhere, pushed, written, live_within, leaf_keeps, inner_was, with_leaf, two_stay}
use Rattle.lw_tree.proofs.PlaceLemmas.{number_within, known_leaf, inner_open, past_place, set_and_more, length-set_and_more}

pub record IsShaped (t : TreeState) : Type 0 where
  pub letters : 1 ≤ t.inputs
  pub some : 0 < length t.access
  pub words : All (IsWord t.inputs) t.access
  pub first : word_at t.access 0 ≡ []
  pub nodes : AreBranched t.inputs (node_at t.nodes)
  pub each_leaf : length t.leaves ≡ length t.access
  pub leaves : AreLeaves (length t.access) (node_at t.nodes) (leaf_at t.leaves)
  pub each_edge : length t.spanning ≡ length t.access
  pub edges : (q : ℕ) → 0 < q → q < length t.access → IsEdge t.inputs (word_at t.access) (leaf_at t.leaves) (place_of t.inputs t.places) q (edge_at t.spanning q)
  pub each_place : length t.places ≡ length t.access * t.inputs
  pub places : (k : ℕ) → k < length t.places → IsPlace t.outputs (node_at t.nodes) (place_at t.places k)

pub shape_of : (t : TreeState) → IsTree t → IsShaped t
shape_of t g =
    record {
      letters = g.inputs.0;
      some = g.some;
      words = g.words;
      first = g.first;
      nodes = joined t.inputs (node_at t.nodes) g.nodes;
      each_leaf = g.each_leaf;
      leaves = g.leaves;
      each_edge = g.each_edge;
      edges = g.edges;
      each_place = g.each_place;
      places = g.places;
    }

-- a tree of this shape that keeps the limits, with two nodes below each inner one
pub tree_of_shape : (t now : TreeState) → IsTree t → IsShaped now → ((n : ℕ) → IsInner (node_at now.nodes n).content → HasTwo (node_at now.nodes) n) → now.inputs ≡ t.inputs → now.outputs ≡ t.outputs → now.most ≡ t.most → now.refinements ≡ t.refinements → length t.access ≤ length now.access → length now.access ≤ t.most → length now.nodes < 2 ^ 32 → IsTree now
tree_of_shape t now g s two inputs outputs most refinements more few few_nodes =
    record {
      inputs = subst (λ (n : ℕ). (1 ≤ n) × (n ≤ 64)) (sym inputs) g.inputs;
      outputs = subst (λ (n : ℕ). (1 ≤ n) × (n ≤ 4096)) (sym outputs) g.outputs;
      most = subst (λ (n : ℕ). (1 ≤ n) × (n ≤ 1024)) (sym most) g.most;
      some = s.some;
      few = omega (arith, few, most);
      words = s.words;
      first = s.first;
      few_nodes = few_nodes;
      nodes = record { root = s.nodes.root; branches = s.nodes.branches; apart = s.nodes.apart; words = s.nodes.words; tails = s.nodes.tails; two = two };
      each_leaf = s.each_leaf;
      leaves = s.leaves;
      each_edge = s.each_edge;
      edges = s.edges;
      each_place = s.each_place;
      places = s.places;
      refined = let r = g.refined in omega (arith, r, refinements, more);
    }

abbrev pub state_of : Content → ℕ
state_of (State q) = q
state_of (Discriminator word temporary) = 0
state_of Gone = 0

abbrev output_of : Option ℕ → ℕ
output_of (Some y) = y
output_of None = 0

pub same_output : (x y : ℕ) → Some x ≡ Some y → x ≡ y
same_output x y e = ap output_of e

module _ (t : TreeState) (g : IsShaped t) where
  -- each place is at a live node; past the end it is at the root
  pub all_places : (k : ℕ) → IsPlace t.outputs (node_at t.nodes) (place_at t.places k)
  all_places k =
      ⊎_elim
      (λ (lt : k < length t.places). g.places k lt)
      (λ (past : length t.places ≤ k).
      subst (λ (p : Place). IsPlace t.outputs (node_at t.nodes) p) (sym (past_place t.places k past)) (record { live = g.nodes.root; below = λ y e. cc }))
      (cases_lt k (length t.places))

  pub place_inside : (edge : Edge) → IsTransition t edge → edge.state * t.inputs + edge.letter < length t.places
  place_inside edge is = subst (λ (n : ℕ). edge.state * t.inputs + edge.letter < n) (sym g.each_place) (number_within t.inputs (length t.access) edge.state edge.letter is.0 is.1)

  -- a state that was reached stands where its transition leads
  pub edge_closed : (q : ℕ) → 0 < q → q < length t.access → is_open (node_at t.nodes) (place_of t.inputs t.places (edge_at t.spanning q).state (edge_at t.spanning q).letter) ≡ false
  edge_closed q some lt =
      let e = g.edges q some lt in
      known_leaf (node_at t.nodes) (place_of t.inputs t.places (edge_at t.spanning q).state (edge_at t.spanning q).letter) q e.known (ap (λ (n : ℕ). (node_at t.nodes n).content) e.target ∙ g.leaves.leaves q lt)

  -- an open transition is none by which a state was reached
  pub not_an_edge : (edge : Edge) → is_open_by t edge ≡ true → (q : ℕ) → 0 < q → q < length t.access → (edge_at t.spanning q).state * t.inputs + (edge_at t.spanning q).letter ≢ edge.state * t.inputs + edge.letter
  not_an_edge edge stands q some lt same = true≢false (sym stands ∙ (ap (λ (k : ℕ). is_open (node_at t.nodes) (place_at t.places k)) (sym same) ∙ edge_closed q some lt))

  pub leaves_once : (p q : ℕ) → p < length t.access → q < length t.access → leaf_at t.leaves p ≡ leaf_at t.leaves q → p ≡ q
  leaves_once p q lp lq same = ap state_of (sym (g.leaves.leaves p lp) ∙ (ap (λ (n : ℕ). (node_at t.nodes n).content) same ∙ g.leaves.leaves q lq))

  pub leaf_live : (q : ℕ) → q < length t.access → IsLive (node_at t.nodes (leaf_at t.leaves q)).content
  leaf_live q lt = subst IsLive (sym (g.leaves.leaves q lt)) tt

-- an open transition at another node
module _ (t : TreeState) (edge : Edge) (output n : ℕ) (g : IsShaped t) (from : IsTransition t edge) (stands : is_open_by t edge ≡ true) (below : output < t.outputs) (live : IsLive (node_at t.nodes n).content) where
  abbrev number : ℕ
  number = edge.state * t.inputs + edge.letter

  pub place_update : Updates (place_at t.places) (place_at (with_place t edge output n).places) number (placed output n)
  place_update = written t.places number (placed output n) no_place (place_inside t g edge from)

  edge_stays : (q : ℕ) → 0 < q → q < length t.access → IsEdge t.inputs (word_at t.access) (leaf_at t.leaves) (place_of t.inputs (with_place t edge output n).places) q (edge_at t.spanning q)
  edge_stays q some lt =
      let e = g.edges q some lt in
      let at = place_update.others ((edge_at t.spanning q).state * t.inputs + (edge_at t.spanning q).letter) (not_an_edge t g edge stands q some lt) in
      record {
        before = e.before;
        small = e.small;
        word_is = e.word_is;
        target = ap (λ (p : Place). p.node) at ∙ e.target;
        known = subst (λ (p : Place). IsSome p.output) (sym at) e.known;
      }

  pub placed_shape : IsShaped (with_place t edge output n)
  placed_shape =
      record {
        letters = g.letters;
        some = g.some;
        words = g.words;
        first = g.first;
        nodes = g.nodes;
        each_leaf = g.each_leaf;
        leaves = g.leaves;
        each_edge = g.each_edge;
        edges = edge_stays;
        each_place = length-set t.places number (placed output n) ∙ g.each_place;
        places = λ k lt. everywhere (place_at t.places) (place_at (with_place t edge output n).places) number (placed output n) (λ k p. IsPlace t.outputs (node_at t.nodes) p) place_update
            (record { live = live; below = λ y e. subst (λ (z : ℕ). z < t.outputs) (same_output output y e) below }) (λ k other. all_places t g k) k;
      }

-- a new state
module _ (t : TreeState) (edge : Edge) (output : ℕ) (branch : List ℕ) (g : IsShaped t) (next : IsNextState t edge output branch) where
  abbrev after : TreeState
  after = with_state t edge output branch

  abbrev node : ℕ → Node
  node = node_at t.nodes

  abbrev now : ℕ → Node
  now = node_at after.nodes

  abbrev count : ℕ
  count = length t.access

  abbrev new : ℕ
  new = length t.nodes

  abbrev parent : ℕ
  parent = (place_by t edge).node

  abbrev numbered : ℕ
  numbered = edge.state * t.inputs + edge.letter

  pub node_update : Updates node now new (leaf_below parent branch count)
  node_update = pushed t.nodes (leaf_below parent branch count) no_node

  pub state_nodes : AreBranched t.inputs now
  state_nodes = with_leaf t.inputs node now new parent branch count g.nodes node_update (live_within t.nodes) next.inner next.size next.new

  pub state_keeps : KeepsNodes node now
  state_keeps = leaf_keeps t.inputs node now new parent branch count g.nodes node_update (live_within t.nodes) next.inner next.size next.new

  pub node_stays : (n : ℕ) → IsLive (node n).content → now n ≡ node n
  node_stays n live = node_update.others n (λ same. let lt = live_within t.nodes n live in omega (arith, same, lt))

  live_stays : (n : ℕ) → IsLive (node n).content → IsLive (now n).content
  live_stays n live = subst (λ (m : Node). IsLive m.content) (sym (node_stays n live)) live

  pub new_live : IsLive (now new).content
  new_live = subst (λ (m : Node). IsLive m.content) (sym node_update.here) tt

  new_parent : (now new).parent ≡ parent
  new_parent = ap (λ (m : Node). m.parent) node_update.here

  was_inner : (n : ℕ) → IsInner (now n).content → IsInner (node n).content
  was_inner = inner_was t.inputs node now new parent branch count g.nodes node_update (live_within t.nodes) next.inner next.size next.new

  still_two : (n : ℕ) → HasTwo node n → HasTwo now n
  still_two = two_stay node now live_stays (λ n live. ap (λ (m : Node). m.parent) (node_stays n live))

  pub state_two : ((n : ℕ) → IsInner (node n).content → HasTwo node n) → (n : ℕ) → IsInner (now n).content → HasTwo now n
  state_two two n is = still_two n (two n (was_inner n is))

  -- where just one node stood below the parent, the new one is the other
  pub second_of_two : (one : ℕ) → 0 < one → IsLive (node one).content → (node one).parent ≡ parent → ((n : ℕ) → n ≢ parent → IsInner (node n).content → HasTwo node n) → (n : ℕ) → IsInner (now n).content → HasTwo now n
  second_of_two one below live up two n is =
      ⊎_elim
      (λ (same : n ≡ parent).
      record {
        one = one;
        other = new;
        below = below;
        rising = live_within t.nodes one live;
        one_live = live_stays one live;
        other_live = new_live;
        one_parent = ap (λ (m : Node). m.parent) (node_stays one live) ∙ (up ∙ sym same);
        other_parent = new_parent ∙ sym same;
      })
      (λ (other : n ≢ parent). still_two n (two n other (was_inner n is)))
      (cases_eq n parent)

  state_count : length after.access ≡ count + 1
  state_count = length-append t.access (word_of t edge ∷ [])

  pub word_stays : (q : ℕ) → q < count → word_at after.access q ≡ word_at t.access q
  word_stays q lt = get_or-append t.access (word_of t edge ∷ []) [] q lt

  word_update : Updates (word_at t.access) (word_at after.access) count (word_of t edge)
  word_update = pushed t.access (word_of t edge) []

  pub new_word : word_at after.access count ≡ word_of t edge
  new_word = word_update.here

  leaf_update : Updates (leaf_at t.leaves) (leaf_at after.leaves) count new
  leaf_update = subst (λ (n : ℕ). Updates (leaf_at t.leaves) (leaf_at after.leaves) n new) g.each_leaf (pushed t.leaves new 0)

  pub new_leaf : leaf_at after.leaves count ≡ new
  new_leaf = leaf_update.here

  pub leaf_stays : (q : ℕ) → q < count → leaf_at after.leaves q ≡ leaf_at t.leaves q
  leaf_stays q lt = leaf_update.others q (λ same. omega (arith, same, lt))

  edge_update : Updates (edge_at t.spanning) (edge_at after.spanning) count edge
  edge_update = subst (λ (n : ℕ). Updates (edge_at t.spanning) (edge_at after.spanning) n edge) g.each_edge (pushed t.spanning edge _)

  pub places_update : Updates (place_at t.places) (place_at after.places) numbered (placed output new)
  places_update = set_and_more t.places numbered t.inputs (placed output new) (place_inside t g edge next.from)

  pub at_last : (q : ℕ) → q < length after.access → count ≤ q → q ≡ count
  at_last q lt ge = omega (arith, lt, ge, state_count)

  pub state_leaves : AreLeaves (length after.access) now (leaf_at after.leaves)
  state_leaves =
      record {
        leaves = λ q lt. ⊎_elim
            (λ (old : q < count).
            let live : IsLive (node (leaf_at t.leaves q)).content = leaf_live t g q old in
            ap (λ (n : ℕ). (now n).content) (leaf_stays q old) ∙ (ap (λ (m : Node). m.content) (node_stays (leaf_at t.leaves q) live) ∙ g.leaves.leaves q old))
            (λ (ge : count ≤ q).
            let at = at_last q lt ge in
            ap (λ (n : ℕ). (now n).content) (ap (leaf_at after.leaves) at ∙ new_leaf) ∙ (ap (λ (m : Node). m.content) node_update.here ∙ ap State (sym at)))
            (cases_lt q count);
        states = λ n q is. ⊎_elim
            (λ (same : n ≡ new).
            let both : State count ≡ State q = sym (ap (λ (m : Node). m.content) (ap now same ∙ node_update.here)) ∙ is in
            let at : count ≡ q = ap state_of both in
            (omega (arith, at, state_count), ap (leaf_at after.leaves) (sym at) ∙ (new_leaf ∙ sym same)))
            (λ (other : n ≢ new).
            let was = g.leaves.states n q (sym (ap (λ (m : Node). m.content) (node_update.others n other)) ∙ is) in
            let lt = was.0 in
            (omega (arith, lt, state_count), leaf_stays q lt ∙ was.1))
            (cases_eq n new);
      }

  old_edge : (q : ℕ) → 0 < q → q < count → IsEdge t.inputs (word_at after.access) (leaf_at after.leaves) (place_of t.inputs after.places) q (edge_at t.spanning q)
  old_edge q some lt =
      let e = g.edges q some lt in
      let before = e.before in
      let from : (edge_at t.spanning q).state < count = omega (arith, before, lt) in
      let at = places_update.others ((edge_at t.spanning q).state * t.inputs + (edge_at t.spanning q).letter) (not_an_edge t g edge (inner_open node (place_by t edge) next.inner) q some lt) in
      record {
        before = e.before;
        small = e.small;
        word_is = word_stays q lt ∙ (e.word_is ∙ ap (λ (w : List ℕ). w ++ (edge_at t.spanning q).letter ∷ []) (sym (word_stays (edge_at t.spanning q).state from)));
        target = ap (λ (p : Place). p.node) at ∙ (e.target ∙ sym (leaf_stays q lt));
        known = subst (λ (p : Place). IsSome p.output) (sym at) e.known;
      }

  new_edge : IsEdge t.inputs (word_at after.access) (leaf_at after.leaves) (place_of t.inputs after.places) count edge
  new_edge =
      record {
        before = next.from.0;
        small = next.from.1;
        word_is = new_word ∙ ap (λ (w : List ℕ). w ++ edge.letter ∷ []) (sym (word_stays edge.state next.from.0));
        target = ap (λ (p : Place). p.node) places_update.here ∙ sym new_leaf;
        known = subst (λ (p : Place). IsSome p.output) (sym places_update.here) refl;
      }

  state_edges : (q : ℕ) → 0 < q → q < length after.access → IsEdge t.inputs (word_at after.access) (leaf_at after.leaves) (place_of t.inputs after.places) q (edge_at after.spanning q)
  state_edges q some lt =
      ⊎_elim
      (λ (old : q < count). subst (IsEdge t.inputs (word_at after.access) (leaf_at after.leaves) (place_of t.inputs after.places) q) (sym (edge_update.others q (λ same. omega (arith, same, old)))) (old_edge q some old))
      (λ (ge : count ≤ q).
      let at = at_last q lt ge in
      subst (λ (p : ℕ). IsEdge t.inputs (word_at after.access) (leaf_at after.leaves) (place_of t.inputs after.places) p (edge_at after.spanning p)) (sym at)
      (subst (IsEdge t.inputs (word_at after.access) (leaf_at after.leaves) (place_of t.inputs after.places) count) (sym edge_update.here) new_edge))
      (cases_lt q count)

  state_places : (k : ℕ) → IsPlace t.outputs now (place_at after.places k)
  state_places =
      everywhere (place_at t.places) (place_at after.places) numbered (placed output new) (λ k p. IsPlace t.outputs now p) places_update
      (record { live = new_live; below = λ y e. subst (λ (z : ℕ). z < t.outputs) (same_output output y e) next.below })
      (λ k other. let p = all_places t g k in record { live = live_stays (place_at t.places k).node p.live; below = p.below })

  pub state_place_live : (k : ℕ) → IsLive (now (place_at after.places k).node).content
  state_place_live k = (state_places k).live

  pub state_shape : IsShaped after
  state_shape =
      record {
        letters = g.letters;
        some = omega (arith, state_count);
        words = All-push (IsWord t.inputs) t.access (word_of t edge) g.words (All-push (λ x. x < t.inputs) (word_at t.access edge.state) edge.letter (All-get_or (IsWord t.inputs) t.access edge.state [] next.from.0 g.words) next.from.1);
        first = word_stays 0 g.some ∙ g.first;
        nodes = state_nodes;
        each_leaf = length-append t.leaves (new ∷ []) ∙ (ap (λ (n : ℕ). n + 1) g.each_leaf ∙ sym state_count);
        leaves = state_leaves;
        each_edge = length-append t.spanning (edge ∷ []) ∙ (ap (λ (n : ℕ). n + 1) g.each_edge ∙ sym state_count);
        edges = state_edges;
        each_place =
            let more : suc count * t.inputs ≡ count * t.inputs + t.inputs = omega arith in
            let next_count : length after.access ≡ suc count = omega (arith, state_count) in
            length-set_and_more t.places numbered t.inputs (placed output new) ∙ (ap (λ (n : ℕ). n + t.inputs) g.each_place ∙ (sym more ∙ ap (λ (n : ℕ). n * t.inputs) (sym next_count)));
        places = λ k lt. state_places k;
      }
