-- Nodes by their parents, the lists of those below each, and the tree that the vectors are.
use Rattle.std.specs.Prelude.{◌≡◌, ℕ, ◌<◌, ◌≤◌, List, length, Some}
use Rattle.lw_links.specs.Owners.{ListsByOwner, owner_of}
use Rattle.lw_tree.specs.Tree.{TreeState, IsLive, node_at}
use Rattle.lw_tree.specs.declared.nodes.Node.{Node}
use Rattle.lw_tree.specs.declared.transitions.Place.{Place}
use Rattle.lw_tree.specs.declared.transitions.Edge.{Edge}

-- a node that stands below another one
abbrev pub IsChild : (ℕ → Node) → ℕ → ℕ → Type 0
IsChild node p n = (0 < n) × IsLive (node n).content × ((node n).parent ≡ p)

abbrev pub tree_of : ℕ → ℕ → ℕ → List (List ℕ) → List Node → List ℕ → List Place → List Edge → ℕ → TreeState
tree_of inputs outputs most access nodes leaves places spanning refinements = record {
  inputs = inputs;
  outputs = outputs;
  most = most;
  access = access;
  nodes = nodes;
  leaves = leaves;
  places = places;
  spanning = spanning;
  refinements = refinements;
}

-- nodes in order, and how many more can be added without memory
pub record NodeList : Type 0 where
  pub items : List Node
  pub room : ℕ

-- live nodes but the root have parents with lower numbers
abbrev pub AreLower : List Node → Type 0
AreLower nodes = (n : ℕ) → 0 < n → IsLive (node_at nodes n).content → (node_at nodes n).parent < n

-- the list of each node has those below it; there is a list and a cell for each node
pub record AreLinked (nodes : List Node) (v : ListsByOwner) : Type 0 where
  pub owners : length v.lists ≡ v.cells
  pub each : length nodes ≤ v.cells
  pub linked : (p n : ℕ) → IsChild (node_at nodes) p n → owner_of v n ≡ Some p
  pub child : (p n : ℕ) → owner_of v n ≡ Some p → IsChild (node_at nodes) p n
