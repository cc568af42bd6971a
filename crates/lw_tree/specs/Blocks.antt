-- The classes of a tree's states, and how the root of a block is replaced. Source: Isberner, Howar and Steffen (2014).
use Rattle.std.specs.Prelude.{◌≡◌, ◌≢◌, ◌⊎◌, ℕ, ◌+◌, ◌*◌, ◌<◌, true, false, List, ◌∷◌, ◌++◌, length, Result, OnOk, OnErr, ⊤}
use Rattle.lw_words.specs.Word.{Answer, IsWord}
use Rattle.lw_cache.specs.Crowd.{Separates}
use Rattle.lw_cache.specs.Cut.{word_at}
use Rattle.lw_cache.specs.Known.{IsKnown}
use Rattle.lw_tree.specs.Grown.{HasGrown}
use Rattle.lw_tree.specs.Tree.{TreeState, node_at, place_at, leaf_at, edge_at, final_discriminators, is_temporary, IsLive, IsFinal, HasTail, IsAbove}
use Rattle.lw_tree.specs.declared.nodes.Node.{Node}
use Rattle.lw_tree.specs.declared.nodes.Content.TheVariants.{Discriminator}

-- the root of the class of a node: of the nodes that aren't final, the highest one above it
pub record IsClassRoot (node : ℕ → Node) (r n : ℕ) : Type 0 where
  pub above : IsAbove node r n
  pub live : IsLive (node r).content
  pub lower : ¬ IsFinal (node r).content
  pub highest : 0 < r → IsFinal (node (node r).parent).content

-- the state is of the class with this root
abbrev pub IsMember : TreeState → ℕ → ℕ → Type 0
IsMember t r q = (q < length t.access) × IsClassRoot (node_at t.nodes) r (leaf_at t.leaves q)

-- two states are of one class
abbrev pub AreOfOneClass : TreeState → ℕ → ℕ → Type 0
AreOfOneClass t p q = (r : ℕ) × IsMember t r p × IsMember t r q

-- the lowest node above two
pub record IsFork (node : ℕ → Node) (one other n : ℕ) : Type 0 where
  pub above_one : IsAbove node n one
  pub above_other : IsAbove node n other
  pub lowest : (m : ℕ) → IsAbove node m one → IsAbove node m other → IsAbove node m n

-- the root of a block, which is a class of several states: a temporary node, and the root or below a final node
pub record IsBlock (t : TreeState) (r : ℕ) : Type 0 where
  pub temporary : is_temporary (node_at t.nodes r).content ≡ true
  pub highest : 0 < r → IsFinal (node_at t.nodes (node_at t.nodes r).parent).content

-- two states have known outputs on the word, which differ
pub record AreTold (ks : List Answer) (t : TreeState) (r : ℕ) (word : List ℕ) : Type 0 where
  pub one : ℕ
  pub other : ℕ
  pub one_member : IsMember t r one
  pub other_member : IsMember t r other
  pub differ : Separates ks word (word_at t.access one) (word_at t.access other)

-- the word may take the place of the root of a block: it is a letter, or a letter followed by a final discriminator; the outputs
-- of all members on it are known, and those of two of them differ
pub record MayReplace (ks : List Answer) (t : TreeState) (r : ℕ) (word : List ℕ) : Type 0 where
  pub block : IsBlock t r
  pub letters : IsWord t.inputs word
  pub tail : HasTail (node_at t.nodes) word
  pub known : (q : ℕ) → IsMember t r q → IsKnown ks (word_at t.access q ++ word)
  pub told : AreTold ks t r word

-- a final node more, with this discriminator; the final nodes that there were stay
pub record HasFinal (word : List ℕ) (before now : TreeState) : Type 0 where
  pub front : List (List ℕ)
  pub back : List (List ℕ)
  pub were : final_discriminators before.nodes ≡ front ++ back
  pub are : final_discriminators now.nodes ≡ front ++ word ∷ back

-- the second node is below the first
abbrev pub StandsBelow : (ℕ → Node) → ℕ → ℕ → Type 0
StandsBelow node m n = (m ≢ n) × IsAbove node m n

-- a node keeps its parent and branch; a node at which something stood, and that is neither this one nor below it, is as it was; so
-- is each transition that stood at no node below it
pub record KeepsOutside (r : ℕ) (before now : TreeState) : Type 0 where
  pub parent : (node_at now.nodes r).parent ≡ (node_at before.nodes r).parent
  pub branch : (node_at now.nodes r).branch ≡ (node_at before.nodes r).branch
  pub nodes : (n : ℕ) → n ≢ r → ¬ (StandsBelow (node_at before.nodes) r n) → IsLive (node_at before.nodes n).content → node_at now.nodes n ≡ node_at before.nodes n
  pub places : (k : ℕ) → k < length before.places → ¬ (StandsBelow (node_at before.nodes) r (place_at before.places k).node) → place_at now.places k ≡ place_at before.places k

-- the state was reached by the transition with this number
abbrev pub IsReachedBy : TreeState → ℕ → ℕ → Type 0
IsReachedBy t q k = (0 < q) × (q < length t.access) × ((edge_at t.spanning q).state * t.inputs + (edge_at t.spanning q).letter ≡ k)

-- the transition stands at the leaf of the state that was reached by it
abbrev pub StandsAtItsState : TreeState → TreeState → ℕ → Type 0
StandsAtItsState before now k = (q : ℕ) × IsReachedBy before q k × ((place_at now.places k).node ≡ leaf_at now.leaves q)

-- a state whose leaf was below a node has its leaf below that node
abbrev pub LeavesStayInside : ℕ → TreeState → TreeState → Type 0
LeavesStayInside r before now = (q : ℕ) → q < length before.access → StandsBelow (node_at before.nodes) r (leaf_at before.leaves q) → StandsBelow (node_at now.nodes) r (leaf_at now.leaves q)

-- the states below a node stay below it; and each transition that stood below it stands at it, but for those that states were
-- reached by: these stand at their states
pub record GathersInside (r : ℕ) (before now : TreeState) : Type 0 where
  pub leaves : LeavesStayInside r before now
  pub places : (k : ℕ) → k < length before.places → StandsBelow (node_at before.nodes) r (place_at before.places k).node → ((place_at now.places k).node ≡ r) ⊎ StandsAtItsState before now k

-- the states below a node stay below it; and each transition that stood below it stands at it or below it
pub record StaysInside (r : ℕ) (before now : TreeState) : Type 0 where
  pub leaves : LeavesStayInside r before now
  pub places : (k : ℕ) → k < length before.places → StandsBelow (node_at before.nodes) r (place_at before.places k).node → IsAbove (node_at now.nodes) r (place_at now.places k).node

-- each transition has the output that it had, if any, and no other one
abbrev pub HaveSameOutputs : TreeState → TreeState → Type 0
HaveSameOutputs before now = (k : ℕ) → k < length before.places → (place_at now.places k).output ≡ (place_at before.places k).output

-- a tree once the root r of a block was to be replaced: it is final now
pub record HasReplaced {E : Type 0} (ks : List Answer) (r : ℕ) (word : List ℕ) (before now : TreeState) (result : Result ⊤ E) : Type 0 where
  pub grown : OnOk result (HasGrown ks before now)
  pub replaced : OnOk result (HasFinal word before now)
  pub root : OnOk result ((node_at now.nodes r).content ≡ Discriminator word false)
  pub outside : OnOk result (KeepsOutside r before now)
  pub inside : OnOk result (GathersInside r before now)
  pub outputs : OnOk result (HaveSameOutputs before now)
  pub access : OnOk result (now.access ≡ before.access)
  pub refinements : OnOk result (now.refinements ≡ before.refinements)
  pub left : OnErr result (now ≡ before)
