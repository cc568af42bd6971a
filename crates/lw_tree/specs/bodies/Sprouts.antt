-- What is to stand below the root of a block once that is replaced, while it is made.
use Rattle.std.specs.Prelude.{◌≡◌, ◌≢◌, ◌⊎◌, ℕ, ◌+◌, ◌*◌, ◌<◌, ◌≤◌, Bool, true, false, List, [], ◌∷◌, ◌++◌, length, slice_index_or, slice_set, if◌then◌else◌}
use Rattle.lw_words.specs.Word.{Answer, IsWord}
use Rattle.lw_cache.specs.Crowd.{Separates}
use Rattle.lw_cache.specs.Cut.{word_at}
use Rattle.lw_cache.specs.Known.{IsKnown}
use Rattle.lw_tree.specs.Tree.{TreeState, node_at, place_at, edge_at, leaf_at, discriminator, IsLive, IsInner, IsFinal, IsBranch, HasTail, HasTwo, IsAbove, Agrees}
use Rattle.lw_tree.specs.bodies.Steps.{leaf_below}
use Rattle.lw_tree.specs.declared.nodes.Node.{Node}
use Rattle.lw_tree.specs.declared.transitions.Edge.{Edge}
use Rattle.lw_tree.specs.declared.transitions.Place.{Place}
use Rattle.lw_tree.specs.declared.nodes.Content.TheVariants.{State, Discriminator, Gone}

-- the second node is live and stands below the first
abbrev pub IsUnder : (ℕ → Node) → ℕ → ℕ → Type 0
IsUnder node r n = (r < n) × IsLive (node n).content × IsAbove node r n

abbrev pub mark_at : List Bool → ℕ → Bool
mark_at marks n = slice_index_or marks n false

-- of the first nodes, those below a node are marked
pub record AreMarks (node : ℕ → Node) (r : ℕ) (marks : List Bool) : Type 0 where
  pub sound : (n : ℕ) → mark_at marks n ≡ true → IsUnder node r n
  pub complete : (n : ℕ) → n < length marks → IsUnder node r n → mark_at marks n ≡ true

-- the mark of the next node
pub record IsNextMark (marks : List Bool) (r number : ℕ) (n : Node) (mark : Bool) : Type 0 where
  pub yes : mark ≡ true → (r < number) × IsLive n.content × ((n.parent ≡ r) ⊎ (mark_at marks n.parent ≡ true))
  pub no : r < number → IsLive n.content → (n.parent ≡ r) ⊎ (mark_at marks n.parent ≡ true) → mark ≡ true

-- the root for a marked node, and any other node for itself
abbrev pub lifted : List Bool → ℕ → ℕ → ℕ
lifted marks r n = if mark_at marks n then r else n

-- a state stands at a node with this branch, of those from a place on; at a new one, where there was none
abbrev pub HasDescended : ℕ → ℕ → ℕ → List ℕ → ℕ → List Node → List ℕ → List Node → List ℕ → Type 0
HasDescended first front parent branch q nodes leaves now stand =
    ((j : ℕ) × (front ≤ j) × (j < length nodes) × ((node_at nodes j).branch ≡ branch) × (now ≡ nodes) × (stand ≡ slice_set leaves q (first + j)))
    ⊎ (((j : ℕ) → front ≤ j → j < length nodes → (node_at nodes j).branch ≢ branch) × (now ≡ nodes ++ leaf_below parent branch q ∷ []) × (stand ≡ slice_set leaves q (first + length nodes)))

-- the lowest node above the leaves of the states that stand at a node
pub record IsLowest (node : ℕ → Node) (leaf stand : ℕ → ℕ) (count number n : ℕ) : Type 0 where
  pub above : (q : ℕ) → q < count → stand q ≡ number → IsAbove node n (leaf q)
  pub lowest : (m : ℕ) → ((q : ℕ) → q < count → stand q ≡ number → IsAbove node m (leaf q)) → IsAbove node m n
  pub live : IsLive (node n).content

-- nodes of which some inner ones may have fewer than two below them
pub record AreBranched (a : ℕ) (node : ℕ → Node) : Type 0 where
  pub root : IsLive (node 0).content
  pub branches : (n : ℕ) → 0 < n → IsLive (node n).content → IsBranch node n
  pub apart : (m n : ℕ) → 0 < m → m < n → IsLive (node m).content → IsLive (node n).content → (node m).parent ≡ (node n).parent → (node m).branch ≢ (node n).branch
  pub words : (n : ℕ) → IsInner (node n).content → IsWord a (discriminator (node n).content) × (discriminator (node n).content ≢ [])
  pub tails : (n : ℕ) → IsFinal (node n).content → HasTail node (discriminator (node n).content)

-- each state stands at a node that its access word agrees with, and each leaf is that of a state that stands there; no node from
-- a number on is final
pub record AreStanding (ks : List Answer) (a : ℕ) (access : List (List ℕ)) (first : ℕ) (node : ℕ → Node) (stand : ℕ → ℕ) : Type 0 where
  pub shape : AreBranched a node
  pub states : (n q : ℕ) → (node n).content ≡ State q → (q < length access) × (stand q ≡ n)
  pub live : (q : ℕ) → q < length access → IsLive (node (stand q)).content
  pub agrees : (q : ℕ) → q < length access → Agrees ks node (word_at access q) (stand q)
  pub plain : (n : ℕ) → first ≤ n → ¬ IsFinal (node n).content

-- all nodes before a number are as they are to be
pub record IsSprout (ks : List Answer) (a : ℕ) (access : List (List ℕ)) (first : ℕ) (nodes : List Node) (leaves : List ℕ) (next : ℕ) : Type 0 where
  pub standing : AreStanding ks a access first (node_at nodes) (leaf_at leaves)
  pub each : length leaves ≡ length access
  pub two : (n : ℕ) → IsInner (node_at nodes n).content → HasTwo (node_at nodes) n
  pub stood : (q : ℕ) → q < length access → ((node_at nodes (leaf_at leaves q)).content ≡ State q) ⊎ (next ≤ leaf_at leaves q)
  pub unmade : (n : ℕ) → next ≤ n → ¬ IsInner (node_at nodes n).content
  pub all : (n : ℕ) → first ≤ n → n < length nodes → IsLive (node_at nodes n).content

-- the same, but for one inner node, at which states stand, and below which nothing does
pub record IsOpen (ks : List Answer) (a : ℕ) (access : List (List ℕ)) (first : ℕ) (nodes : List Node) (leaves : List ℕ) (next c : ℕ) (word : List ℕ) : Type 0 where
  pub standing : AreStanding ks a access first (node_at nodes) (leaf_at leaves)
  pub each : length leaves ≡ length access
  pub before : c < next
  pub within : next ≤ length nodes
  pub temporary : Bool
  pub content : (node_at nodes c).content ≡ Discriminator word temporary
  pub two : (n : ℕ) → n ≢ c → IsInner (node_at nodes n).content → HasTwo (node_at nodes) n
  pub stood : (q : ℕ) → q < length access → ((node_at nodes (leaf_at leaves q)).content ≡ State q) ⊎ ((next ≤ leaf_at leaves q) ⊎ (leaf_at leaves q ≡ c))
  pub unmade : (n : ℕ) → next ≤ n → ¬ IsInner (node_at nodes n).content
  pub all : (n : ℕ) → first ≤ n → n < length nodes → IsLive (node_at nodes n).content
  pub childless : (n : ℕ) → 0 < n → IsLive (node_at nodes n).content → (node_at nodes n).parent ≢ c

-- the same of nodes behind others, which a tree may have in place of its own
abbrev pub IsSproutOf : List Answer → TreeState → List Node → List Node → List ℕ → ℕ → Type 0
IsSproutOf ks t base nodes leaves next = IsSprout ks t.inputs t.access (length t.nodes) (base ++ nodes) leaves next

abbrev pub IsOpenOf : List Answer → TreeState → List Node → List Node → List ℕ → ℕ → ℕ → List ℕ → Type 0
IsOpenOf ks t base nodes leaves next c word = IsOpen ks t.inputs t.access (length t.nodes) (base ++ nodes) leaves next c word

-- the outputs on a word are known of the states that stand at a node, and those of two of them differ
pub record CanPart (ks : List Answer) (access : List (List ℕ)) (leaves : List ℕ) (c : ℕ) (word : List ℕ) : Type 0 where
  pub each : length leaves ≡ length access
  pub known : (q : ℕ) → q < length access → leaf_at leaves q ≡ c → IsKnown ks (word_at access q ++ word)
  pub one : ℕ
  pub other : ℕ
  pub one_state : one < length access
  pub other_state : other < length access
  pub one_there : leaf_at leaves one ≡ c
  pub other_there : leaf_at leaves other ≡ c
  pub differ : Separates ks word (word_at access one) (word_at access other)

-- a tree's nodes, with a final one in place of a block's root, and none below it
pub record IsCleared (node now : ℕ → Node) (r : ℕ) (word : List ℕ) (marks : List Bool) : Type 0 where
  pub parent : (n : ℕ) → (now n).parent ≡ (node n).parent
  pub branch : (n : ℕ) → (now n).branch ≡ (node n).branch
  pub root : (now r).content ≡ Discriminator word false
  pub gone : (n : ℕ) → n ≢ r → mark_at marks n ≡ true → (now n).content ≡ Gone
  pub kept : (n : ℕ) → n ≢ r → mark_at marks n ≡ false → (now n).content ≡ (node n).content

abbrev pub gone_node : Node → Node
gone_node n = record { parent = n.parent; branch = n.branch; content = Gone }

-- the nodes in order, each marked one gone
abbrev pub cleared : List Node → List Bool → List Node
cleared [] marks = []
cleared (n ∷ nodes) [] = n ∷ nodes
cleared (n ∷ nodes) (true ∷ marks) = gone_node n ∷ cleared nodes marks
cleared (n ∷ nodes) (false ∷ marks) = n ∷ cleared nodes marks

abbrev pub final_node : Node → List ℕ → Node
final_node n word = record { parent = n.parent; branch = n.branch; content = Discriminator word false }

-- the same, and a final node in place of the root
abbrev pub replaced_root : List Node → ℕ → List ℕ → List Bool → List Node
replaced_root nodes r word marks = slice_set (cleared nodes marks) r (final_node (node_at (cleared nodes marks) r) word)

abbrev pub lifted_place : List Bool → ℕ → Place → Place
lifted_place marks r p = record { output = p.output; node = lifted marks r p.node }

abbrev pub edge_number : ℕ → List Edge → ℕ → ℕ
edge_number a spanning q = (edge_at spanning q).state * a + (edge_at spanning q).letter

-- places once the transitions by which the first states were reached stand where these do: each other place is as it was
pub record AreEdgePlaces (a : ℕ) (spanning : List Edge) (leaves : List ℕ) (upto : ℕ) (places now : List Place) : Type 0 where
  pub size : length now ≡ length places
  pub output : (k : ℕ) → (place_at now k).output ≡ (place_at places k).output
  pub node : (k : ℕ) → ((place_at now k).node ≡ (place_at places k).node) ⊎ ((q : ℕ) × (0 < q) × (q < upto) × (edge_number a spanning q ≡ k) × ((place_at now k).node ≡ leaf_at leaves q))
  pub edges : (q : ℕ) → 0 < q → q < upto → ((p : ℕ) → 0 < p → p < upto → edge_number a spanning p ≡ edge_number a spanning q → p ≡ q) → (place_at now (edge_number a spanning q)).node ≡ leaf_at leaves q
