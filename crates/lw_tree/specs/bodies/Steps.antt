-- The steps by which a tree grows.
use Rattle.std.specs.Prelude.{◌≡◌, ◌≢◌, ℕ, zero, suc, ◌+◌, ◌*◌, ◌<◌, ◌≤◌, List, [], ◌∷◌, ◌++◌, length, replicate, slice_set, true, Some}
use Rattle.lw_words.specs.Word.{Answer, IsWord}
use Rattle.lw_cache.specs.Cut.{word_at}
use Rattle.lw_cache.specs.declared.stops.AskStop.TheVariants.{NoMemory}
use Rattle.lw_cache.specs.declared.stops.GrowStop.{GrowStop}
use Rattle.lw_cache.specs.declared.stops.GrowStop.TheVariants.{Ask, Crowd}
use Rattle.lw_tree.specs.Grown.{HasGrown, KeepsTree, MovesOn, StepsOnce, AllStepOnce}
use Rattle.lw_tree.specs.Tree.{TreeState, node_at, place_at, leaf_at, edge_at, no_place, discriminator, IsInner, BranchesAreRead, Tells}
use Rattle.lw_tree.specs.bodies.Nodes.{IsChild}
use Rattle.lw_tree.specs.bodies.Transitions.{IsTransition, word_of, place_by, content_by}
use Rattle.lw_tree.specs.declared.nodes.Node.{Node}
use Rattle.lw_tree.specs.declared.nodes.Content.TheVariants.{State, Discriminator}
use Rattle.lw_tree.specs.declared.transitions.Place.{Place}
use Rattle.lw_tree.specs.declared.transitions.Edge.{Edge}

abbrev pub placed : ℕ → ℕ → Place
placed output node = record { output = Some output; node = node }

-- the places of all transitions, with another one for this
abbrev pub set_place : ℕ → List Place → Edge → Place → List Place
set_place a places edge place = slice_set places (edge.state * a + edge.letter) place

-- the same tree, but for the place of a transition
abbrev pub with_place : TreeState → Edge → ℕ → ℕ → TreeState
with_place t edge output node = record (t) { places = set_place t.inputs t.places edge (placed output node) }

-- the leaf of a state, below a node
abbrev pub leaf_below : ℕ → List ℕ → ℕ → Node
leaf_below parent branch q = record { parent = parent; branch = branch; content = State q }

-- a tree with one state more, to which this transition leads
abbrev pub with_state : TreeState → Edge → ℕ → List ℕ → TreeState
with_state t edge output branch = record (t) {
  access = t.access ++ word_of t edge ∷ [];
  nodes = t.nodes ++ leaf_below (place_by t edge).node branch (length t.access) ∷ [];
  leaves = t.leaves ++ length t.nodes ∷ [];
  places = set_place t.inputs t.places edge (placed output (length t.nodes)) ++ replicate t.inputs no_place;
  spanning = t.spanning ++ edge ∷ [];
}

-- the transition stands at an inner node that has no child under these outputs
pub record IsNextState (t : TreeState) (edge : Edge) (output : ℕ) (branch : List ℕ) : Type 0 where
  pub from : IsTransition t edge
  pub inner : IsInner (content_by t edge)
  pub below : output < t.outputs
  pub size : length branch ≡ length (discriminator (content_by t edge))
  pub new : (n : ℕ) → IsChild (node_at t.nodes) (place_by t edge).node n → (node_at t.nodes n).branch ≢ branch

-- the transition by which a state was reached, at another node; state 0 was reached by none
abbrev pub moved_edge : ℕ → List Place → Edge → ℕ → ℕ → List Place
moved_edge a places edge zero node = places
moved_edge a places edge (suc q) node = set_place a places edge (record { output = (place_at places (edge.state * a + edge.letter)).output; node = node })

abbrev pub inner_node : Node → List ℕ → Node
inner_node n suffix = record { parent = n.parent; branch = n.branch; content = Discriminator suffix true }

-- a tree in which the leaf of a state is a temporary node, with a new leaf of that state below it
abbrev pub lowered : TreeState → ℕ → List ℕ → List ℕ → TreeState
lowered t q suffix branch = record (t) {
  nodes = slice_set t.nodes (leaf_at t.leaves q) (inner_node (node_at t.nodes (leaf_at t.leaves q)) suffix) ++ leaf_below (leaf_at t.leaves q) branch q ∷ [];
  leaves = slice_set t.leaves q (length t.nodes);
  places = moved_edge t.inputs t.places (edge_at t.spanning q) q (length t.nodes);
}

-- a tree that was split once more
abbrev pub refined_once : TreeState → TreeState
refined_once t = record (t) { refinements = t.refinements + 1 }

-- the transition stands at the leaf of a state, its word isn't that state's access word, and both have outputs on the suffix,
-- which differ
pub record IsNextSplit (t : TreeState) (edge : Edge) (output q : ℕ) (suffix old new : List ℕ) : Type 0 where
  pub from : IsTransition t edge
  pub target : q < length t.access
  pub there : (place_by t edge).node ≡ leaf_at t.leaves q
  pub known : (place_by t edge).output ≡ Some output
  pub letters : IsWord t.inputs suffix
  pub some : suffix ≢ []
  pub old_size : length old ≡ length suffix
  pub new_size : length new ≡ length suffix
  pub differ : old ≢ new
  pub other : word_of t edge ≢ word_at t.access q

-- a tree in which the leaf of a state was split, with a new state to which the transition leads
abbrev pub split_tree : TreeState → Edge → ℕ → ℕ → List ℕ → List ℕ → List ℕ → TreeState
split_tree t edge output q suffix old new = with_state (lowered t q suffix old) edge output new

-- the branches of a tree are read, and a transition's output and its outputs on the discriminator where it stands are so too; an
-- output that it had is this one
pub record IsRead (ks : List Answer) (t : TreeState) (edge : Edge) (output : ℕ) (branch : List ℕ) : Type 0 where
  pub branches : BranchesAreRead ks t
  pub out : Tells ks (word_at t.access edge.state) (edge.letter ∷ []) (output ∷ [])
  pub outs : Tells ks (word_of t edge) (discriminator (content_by t edge)) branch
  pub same : (y : ℕ) → (place_by t edge).output ≡ Some y → y ≡ output

-- of the places that there were at most this one changed, by one step
pub record HasStepped (ks : List Answer) (before : TreeState) (edge : Edge) (now : TreeState) : Type 0 where
  pub grown : HasGrown ks before now
  pub keeps : KeepsTree before now
  pub others : (k : ℕ) → k < length before.places → k ≢ edge.state * before.inputs + edge.letter → place_at now.places k ≡ place_at before.places k
  pub steps : StepsOnce before now (edge.state * before.inputs + edge.letter)

-- each transition before a number has moved on; those from it on are where they were
pub record HasSifted (ks : List Answer) (before : TreeState) (to : ℕ) (now : TreeState) : Type 0 where
  pub grown : HasGrown ks before now
  pub keeps : KeepsTree before now
  pub steps : AllStepOnce before now
  pub left : (k : ℕ) → to ≤ k → k < length before.places → place_at now.places k ≡ place_at before.places k
  pub moved : (k : ℕ) → k < to → k < length before.places → MovesOn before now k

-- out of memory, or too many states: no stop of the oracle
abbrev pub IsOwn : GrowStop → Type 0
IsOwn (Ask stop) = stop ≡ NoMemory
IsOwn (Crowd words) = Unit {0}
