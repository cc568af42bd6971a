-- Transitions by their numbers, and the words that they are asked by.
use Rattle.std.specs.Prelude.{◌≡◌, ℕ, ◌+◌, ◌*◌, ◌<◌, ◌≤◌, List, [], ◌∷◌, ◌++◌, length, slice_index_or, Bool, true, Some}
use Rattle.lw_mealy.specs.Machine.{Row, Rows}
use Rattle.lw_cache.specs.Cut.{word_at}
use Rattle.lw_tree.specs.Tree.{TreeState, node_at, place_of, leaf_at, discriminator, is_open}
use Rattle.lw_tree.specs.declared.nodes.Content.{Content}
use Rattle.lw_tree.specs.declared.transitions.Edge.{Edge}
use Rattle.lw_tree.specs.declared.transitions.Place.{Place}

-- a state of the tree, and a letter
abbrev pub IsTransition : TreeState → Edge → Type 0
IsTransition t edge = (edge.state < length t.access) × (edge.letter < t.inputs)

-- the state's access word and the letter
abbrev pub word_of : TreeState → Edge → List ℕ
word_of t edge = word_at t.access edge.state ++ edge.letter ∷ []

abbrev pub place_by : TreeState → Edge → Place
place_by t edge = place_of t.inputs t.places edge.state edge.letter

-- where a transition stands: the content of the node
abbrev pub content_by : TreeState → Edge → Content
content_by t edge = (node_at t.nodes (place_by t edge).node).content

abbrev pub is_open_by : TreeState → Edge → Bool
is_open_by t edge = is_open (node_at t.nodes) (place_by t edge)

-- the property holds of the words by which an open transition is asked: its own, and that followed by the discriminator where
-- it stands
abbrev pub IsAsked : (List ℕ → Type 0) → TreeState → Edge → Type 0
IsAsked P t edge = is_open_by t edge ≡ true → P (word_of t edge) × P (word_of t edge ++ discriminator (content_by t edge))

-- and of those of all transitions from one number to another
abbrev pub AreAsked : (List ℕ → Type 0) → TreeState → ℕ → ℕ → Type 0
AreAsked P t from to = (edge : Edge) → IsTransition t edge → from ≤ edge.state * t.inputs + edge.letter → edge.state * t.inputs + edge.letter < to → IsAsked P t edge

-- the transitions of a state by the first letters: targets and outputs
pub record IsStep (t : TreeState) (q x target out : ℕ) : Type 0 where
  pub within : target < length t.access
  pub node : (place_of t.inputs t.places q x).node ≡ leaf_at t.leaves target
  pub output : (place_of t.inputs t.places q x).output ≡ Some out

abbrev pub AreStepsTo : TreeState → ℕ → ℕ → Row → Type 0
AreStepsTo t q n row = (length row ≡ n) × ((x : ℕ) → x < n → IsStep t q x (slice_index_or row x (0, 0)).0 (slice_index_or row x (0, 0)).1)

abbrev pub AreSteps : TreeState → ℕ → Row → Type 0
AreSteps t q row = AreStepsTo t q t.inputs row

abbrev pub AreStates : TreeState → ℕ → Rows → Type 0
AreStates t n rows = (length rows ≡ n) × ((q : ℕ) → q < n → AreSteps t q (slice_index_or rows q []))
