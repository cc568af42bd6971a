-- The spanning tree and the discrimination tree of a learner: the first gives each state its access word, the second tells by
-- outputs on its discriminators which state a word leads to. Sources: Kearns and Vazirani (1994); temporary discriminators as in
-- Isberner, Howar and Steffen (2014).
use Rattle.std.specs.Prelude.{◌≡◌, ◌≢◌, ◌⊎◌, ℕ, zero, suc, ◌+◌, ◌*◌, ◌^◌, ◌<◌, ◌≤◌, Bool, true, false, ◌||◌, List, [], ◌∷◌, ◌++◌, length, replicate, drop, slice_index_or, Some, None, IsSome, is_none, if◌then◌else◌}
use Rattle.std.specs.List.{All}
use Rattle.lw_words.specs.Word.{Answer, IsWord}
use Rattle.lw_mealy.specs.Machine.{Rows, next, output}
use Rattle.lw_cache.specs.Cut.{word_at}
use Rattle.lw_cache.specs.Known.{Reads}
use Rattle.lw_tree.specs.declared.nodes.Node.{Node}
use Rattle.lw_tree.specs.declared.nodes.Content.{Content}
use Rattle.lw_tree.specs.declared.nodes.Content.TheVariants.{State, Discriminator, Gone}
use Rattle.lw_tree.specs.declared.transitions.Place.{Place}
use Rattle.lw_tree.specs.declared.transitions.Edge.{Edge}

-- the numbers of inputs and outputs; the greatest number of states; the access word of each state; the nodes of the
-- discrimination tree, of which node 0 is the root; the leaf of each state; the place of each transition, by state and then by
-- letter; from which state and by which letter each state but 0 was reached; and how often the tree was split
pub record TreeState : Type 0 where
  pub inputs : ℕ
  pub outputs : ℕ
  pub most : ℕ
  pub access : List (List ℕ)
  pub nodes : List Node
  pub leaves : List ℕ
  pub places : List Place
  pub spanning : List Edge
  pub refinements : ℕ

abbrev pub no_node : Node
no_node = record { parent = 0; branch = []; content = Gone }

abbrev pub no_place : Place
no_place = record { output = None; node = 0 }

abbrev pub no_edge : Edge
no_edge = record { state = 0; letter = 0 }

abbrev pub node_at : List Node → ℕ → Node
node_at nodes n = slice_index_or nodes n no_node

abbrev pub place_at : List Place → ℕ → Place
place_at places k = slice_index_or places k no_place

abbrev pub leaf_at : List ℕ → ℕ → ℕ
leaf_at leaves q = slice_index_or leaves q 0

abbrev pub edge_at : List Edge → ℕ → Edge
edge_at spanning q = slice_index_or spanning q no_edge

-- the place of a state's transition by a letter, over a letters
abbrev pub place_of : ℕ → List Place → ℕ → ℕ → Place
place_of a places q x = place_at places (q * a + x)

-- a node at which something stands
abbrev pub IsLive : Content → Type 0
IsLive (State q) = Unit {0}
IsLive (Discriminator word temporary) = Unit {0}
IsLive Gone = ⊥

abbrev pub IsInner : Content → Type 0
IsInner (State q) = ⊥
IsInner (Discriminator word temporary) = Unit {0}
IsInner Gone = ⊥

abbrev pub is_inner : Content → Bool
is_inner (State q) = false
is_inner (Discriminator word temporary) = true
is_inner Gone = false

abbrev pub IsFinal : Content → Type 0
IsFinal (State q) = ⊥
IsFinal (Discriminator word true) = ⊥
IsFinal (Discriminator word false) = Unit {0}
IsFinal Gone = ⊥

-- the word of an inner node
abbrev pub discriminator : Content → List ℕ
discriminator (State q) = []
discriminator (Discriminator word temporary) = word
discriminator Gone = []

-- that word, or none
abbrev pub words_of : Content → List (List ℕ)
words_of (State q) = []
words_of (Discriminator word temporary) = word ∷ []
words_of Gone = []

-- the discriminators of the inner nodes, by their numbers
abbrev pub discriminators : List Node → List (List ℕ)
discriminators [] = []
discriminators (n ∷ nodes) = words_of n.content ++ discriminators nodes

-- the word of a final node, or none
abbrev pub final_words_of : Content → List (List ℕ)
final_words_of (State q) = []
final_words_of (Discriminator word true) = []
final_words_of (Discriminator word false) = word ∷ []
final_words_of Gone = []

-- the discriminators of the final nodes, by their numbers
abbrev pub final_discriminators : List Node → List (List ℕ)
final_discriminators [] = []
final_discriminators (n ∷ nodes) = final_words_of n.content ++ final_discriminators nodes

abbrev pub is_temporary : Content → Bool
is_temporary (State q) = false
is_temporary (Discriminator word temporary) = temporary
is_temporary Gone = false

-- how many temporary nodes there are
abbrev pub temporaries : List Node → ℕ
temporaries [] = 0
temporaries (n ∷ nodes) = (if is_temporary n.content then 1 else 0) + temporaries nodes

-- a node below the root: it stands below an inner node, under as many outputs as the discriminator there has letters, and it
-- isn't final where that one is temporary
pub record IsBranch (node : ℕ → Node) (n : ℕ) : Type 0 where
  pub lower : (node n).parent < n
  pub inner : IsInner (node (node n).parent).content
  pub size : length (node n).branch ≡ length (discriminator (node (node n).parent).content)
  pub final : IsFinal (node n).content → IsFinal (node (node n).parent).content

-- a letter, or a letter followed by a final discriminator
abbrev pub HasTail : (ℕ → Node) → List ℕ → Type 0
HasTail node word = (x : ℕ) × ((word ≡ x ∷ []) ⊎ ((n : ℕ) × IsFinal (node n).content × (word ≡ x ∷ discriminator (node n).content)))

-- two nodes stand below a node
pub record HasTwo (node : ℕ → Node) (n : ℕ) : Type 0 where
  pub one : ℕ
  pub other : ℕ
  pub below : 0 < one
  pub rising : one < other
  pub one_live : IsLive (node one).content
  pub other_live : IsLive (node other).content
  pub one_parent : (node one).parent ≡ n
  pub other_parent : (node other).parent ≡ n

-- the nodes of a discrimination tree over a letters, each inner one with two below it; past the end no node is live
pub record AreNodes (a : ℕ) (node : ℕ → Node) : Type 0 where
  pub root : IsLive (node 0).content
  pub branches : (n : ℕ) → 0 < n → IsLive (node n).content → IsBranch node n
  pub apart : (m n : ℕ) → 0 < m → m < n → IsLive (node m).content → IsLive (node n).content → (node m).parent ≡ (node n).parent → (node m).branch ≢ (node n).branch
  pub words : (n : ℕ) → IsInner (node n).content → IsWord a (discriminator (node n).content) × (discriminator (node n).content ≢ [])
  pub tails : (n : ℕ) → IsFinal (node n).content → HasTail node (discriminator (node n).content)
  pub two : (n : ℕ) → IsInner (node n).content → HasTwo node n

-- states and leaves are one to one
pub record AreLeaves (count : ℕ) (node : ℕ → Node) (leaf : ℕ → ℕ) : Type 0 where
  pub leaves : (q : ℕ) → q < count → (node (leaf q)).content ≡ State q
  pub states : (n q : ℕ) → (node n).content ≡ State q → (q < count) × (leaf q ≡ n)

-- the edge by which a state was reached: its access word is that of an earlier state and a letter, and that transition stands
-- at its leaf, with an output
pub record IsEdge (a : ℕ) (word : ℕ → List ℕ) (leaf : ℕ → ℕ) (place : ℕ → ℕ → Place) (q : ℕ) (edge : Edge) : Type 0 where
  pub before : edge.state < q
  pub small : edge.letter < a
  pub word_is : word q ≡ word edge.state ++ edge.letter ∷ []
  pub target : (place edge.state edge.letter).node ≡ leaf q
  pub known : IsSome (place edge.state edge.letter).output

-- a place at a node that is live, with an output below b, if with any
pub record IsPlace (b : ℕ) (node : ℕ → Node) (place : Place) : Type 0 where
  pub live : IsLive (node place.node).content
  pub below : (y : ℕ) → place.output ≡ Some y → y < b

-- what is so of every tree
pub record IsTree (t : TreeState) : Type 0 where
  pub inputs : (1 ≤ t.inputs) × (t.inputs ≤ 64)
  pub outputs : (1 ≤ t.outputs) × (t.outputs ≤ 4096)
  pub most : (1 ≤ t.most) × (t.most ≤ 1024)
  pub some : 0 < length t.access
  pub few : length t.access ≤ t.most
  pub words : All (IsWord t.inputs) t.access
  pub first : word_at t.access 0 ≡ []
  pub few_nodes : length t.nodes < 2 ^ 32
  pub nodes : AreNodes t.inputs (node_at t.nodes)
  pub each_leaf : length t.leaves ≡ length t.access
  pub leaves : AreLeaves (length t.access) (node_at t.nodes) (leaf_at t.leaves)
  pub each_edge : length t.spanning ≡ length t.access
  pub edges : (q : ℕ) → 0 < q → q < length t.access → IsEdge t.inputs (word_at t.access) (leaf_at t.leaves) (place_of t.inputs t.places) q (edge_at t.spanning q)
  pub each_place : length t.places ≡ length t.access * t.inputs
  pub places : (k : ℕ) → k < length t.places → IsPlace t.outputs (node_at t.nodes) (place_at t.places k)
  pub refined : t.refinements < length t.access

-- one node is another or above it, and isn't the root; the way up has this many steps at most
abbrev pub IsOnWayWithin : ℕ → (ℕ → Node) → ℕ → ℕ → Type 0
IsOnWayWithin zero node m n = ⊥
IsOnWayWithin (suc steps) node m n = (0 < n) × ((m ≡ n) ⊎ IsOnWayWithin steps node m (node n).parent)

-- the node m is on the way from the root, which isn't, to the node n, which is; parents have lower numbers
abbrev pub IsOnWay : (ℕ → Node) → ℕ → ℕ → Type 0
IsOnWay node m n = IsOnWayWithin n node m n

-- the node m is the node n, or above it
abbrev pub IsAbove : (ℕ → Node) → ℕ → ℕ → Type 0
IsAbove node m n = (m ≡ 0) ⊎ IsOnWay node m n

-- what is read of the word followed by the suffix ends with these outputs
abbrev pub Tells : List Answer → List ℕ → List ℕ → List ℕ → Type 0
Tells ks word suffix outs = (o : List ℕ) × Reads ks (word ++ suffix) o × (outs ≡ drop (length word) o)

-- a word agrees by what is read with each branch on the way to a node
abbrev pub Agrees : List Answer → (ℕ → Node) → List ℕ → ℕ → Type 0
Agrees ks node word n = (m : ℕ) → IsOnWay node m n → Tells ks word (discriminator (node (node m).parent).content) (node m).branch

-- each output of a transition is what the answers say; each transition agrees with the branches on the way to where it stands,
-- and each access word with those on the way to its leaf
pub record BranchesAreRead (ks : List Answer) (t : TreeState) : Type 0 where
  pub outs : (q x y : ℕ) → q < length t.access → x < t.inputs → (place_of t.inputs t.places q x).output ≡ Some y → Tells ks (word_at t.access q) (x ∷ []) (y ∷ [])
  pub transitions : (q x : ℕ) → q < length t.access → x < t.inputs → Agrees ks (node_at t.nodes) (word_at t.access q ++ x ∷ []) (place_of t.inputs t.places q x).node
  pub access : (q : ℕ) → q < length t.access → Agrees ks (node_at t.nodes) (word_at t.access q) (leaf_at t.leaves q)

-- a transition without a target: its output isn't known, or it stands at an inner node
abbrev pub is_open : (ℕ → Node) → Place → Bool
is_open node place = is_none place.output || is_inner (node place.node).content

-- each transition has a target
abbrev pub IsClosed : TreeState → Type 0
IsClosed t = (k : ℕ) → k < length t.places → is_open (node_at t.nodes) (place_at t.places k) ≡ false

-- some transition has none
abbrev pub HasOpen : TreeState → Type 0
HasOpen t = (k : ℕ) × (k < length t.places) × (is_open (node_at t.nodes) (place_at t.places k) ≡ true)

-- a state for each access word: its output at a letter is the transition's, its target the state at whose leaf that stands
pub record IsMachineOf (t : TreeState) (m : Rows) : Type 0 where
  pub states : length m ≡ length t.access
  pub complete : All (λ r. length r ≡ t.inputs) m
  pub outs : (q x : ℕ) → q < length t.access → x < t.inputs → (place_of t.inputs t.places q x).output ≡ Some (output m q x)
  pub within : (q x : ℕ) → q < length t.access → x < t.inputs → next m q x < length t.access
  pub targets : (q x : ℕ) → q < length t.access → x < t.inputs → (place_of t.inputs t.places q x).node ≡ leaf_at t.leaves (next m q x)

-- the tree before anything was asked: the empty word leads to state 0, whose leaf is the root
abbrev pub new_tree : ℕ → ℕ → ℕ → TreeState
new_tree a b most = record {
  inputs = a;
  outputs = b;
  most = most;
  access = [] ∷ [];
  nodes = record { parent = 0; branch = []; content = State 0 } ∷ [];
  leaves = 0 ∷ [];
  places = replicate a no_place;
  spanning = no_edge ∷ [];
  refinements = 0;
}
