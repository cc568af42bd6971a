-- The transitions of a tree by the state that they lead to: list 0 has those that have no target, list q + 1 those to state q.
use Rattle.std.specs.Prelude.{◌≡◌, ℕ, ◌+◌, ◌*◌, ◌<◌, ◌≤◌, ◌==◌, true, List, length, Contains, slice_index_or, Some, None, option_map, is_none, if◌then◌else◌}
use Rattle.lw_links.specs.Owners.{ListsByOwner, owner_of}
use Rattle.lw_tree.specs.Tree.{TreeState, IsTree, node_at, place_at, is_open}
use Rattle.lw_tree.specs.declared.nodes.Node.{Node}
use Rattle.lw_tree.specs.declared.nodes.Content.{Content}
use Rattle.lw_tree.specs.declared.nodes.Content.TheVariants.{State, Discriminator, Gone}
use Rattle.lw_tree.specs.declared.transitions.Place.{Place}

-- the list of a transition that has its output and stands at such a node
abbrev pub list_of_content : Content → ℕ
list_of_content (State q) = q + 1
list_of_content (Discriminator word temporary) = 0
list_of_content Gone = 0

-- the list of a transition at a place
abbrev pub list_of_place : (ℕ → Node) → Place → ℕ
list_of_place node place = if is_none place.output then 0 else list_of_content (node place.node).content

-- each transition stands in its list; there is a list for each state that there may be, and a cell for each of its transitions
pub record AreArrivals (t : TreeState) (v : ListsByOwner) : Type 0 where
  pub owners : length v.lists ≡ t.most + 1
  pub cells : v.cells ≡ t.most * t.inputs
  pub listed : (k : ℕ) → k < length t.places → owner_of v k ≡ Some (list_of_place (node_at t.nodes) (place_at t.places k))
  pub free : (k : ℕ) → length t.places ≤ k → owner_of v k ≡ None

-- the lists of a new tree, for this many states and letters
pub record AreNewArrivals (v : ListsByOwner) (states letters : ℕ) : Type 0 where
  pub owners : length v.lists ≡ states + 1
  pub cells : v.cells ≡ states * letters
  pub listed : (k : ℕ) → k < letters → owner_of v k ≡ Some 0
  pub free : (k : ℕ) → letters ≤ k → owner_of v k ≡ None

-- a tree, with its transitions in lists
pub record IsListedTree (t : TreeState) (v : ListsByOwner) : Type 0 where
  pub tree : IsTree t
  pub arrivals : AreArrivals t v

-- as many lists and cells as before
pub record IsSize (before now : ListsByOwner) : Type 0 where
  pub owners : length now.lists ≡ length before.lists
  pub cells : now.cells ≡ before.cells

-- this transition is in this list now
pub record Filed (before now : ListsByOwner) (number list : ℕ) : Type 0 where
  pub size : IsSize before now
  pub owner : (k : ℕ) → owner_of now k ≡ (if k == number then Some list else owner_of before k)

-- what was in this list is in list 0 now
pub record Reopened (before now : ListsByOwner) (list : ℕ) : Type 0 where
  pub size : IsSize before now
  pub owner : (k : ℕ) → owner_of now k ≡ option_map (λ o. if o == list then 0 else o) (owner_of before k)

-- the transitions from one number to another are in list 0 now
pub record Added (before now : ListsByOwner) (from to : ℕ) : Type 0 where
  pub size : IsSize before now
  pub new : (k : ℕ) → from ≤ k → k < to → owner_of now k ≡ Some 0
  pub below : (k : ℕ) → k < from → owner_of now k ≡ owner_of before k
  pub above : (k : ℕ) → to ≤ k → owner_of now k ≡ owner_of before k

-- a transition leads to a new state, whose own ones were added
pub record HasState (before now : ListsByOwner) (number list from to : ℕ) : Type 0 where
  pub middle : ListsByOwner
  pub filed : Filed before middle number list
  pub added : Added middle now from to

-- what led to a state is in list 0 now, but for this transition, by which a state other than 0 was reached
pub record HasSplitList (before now : ListsByOwner) (state edge : ℕ) : Type 0 where
  pub middle : ListsByOwner
  pub reopened : Reopened before middle (state + 1)
  pub first : state ≡ 0 → now ≡ middle
  pub later : 0 < state → Filed middle now edge (state + 1)

-- both: another transition that led to the state leads to a new one
pub record HasSplitState (before now : ListsByOwner) (state edge number list from to : ℕ) : Type 0 where
  pub halfway : ListsByOwner
  pub split : HasSplitList before halfway state edge
  pub pushed : HasState halfway now number list from to

-- the transitions before a number are in lists by their places, all others in none
pub record HasFilled (before now : ListsByOwner) (node : ℕ → Node) (places : List Place) (upto : ℕ) : Type 0 where
  pub size : IsSize before now
  pub listed : (k : ℕ) → k < upto → owner_of now k ≡ Some (list_of_place node (place_at places k))
  pub free : (k : ℕ) → upto ≤ k → owner_of now k ≡ None

-- the numbers in list 0, in their order
pub record IsListing (v : ListsByOwner) (numbers : List ℕ) : Type 0 where
  pub only : (i : ℕ) → i < length numbers → owner_of v (slice_index_or numbers i 0) ≡ Some 0
  pub each : (k : ℕ) → owner_of v k ≡ Some 0 → Contains numbers k
  pub rising : (i j : ℕ) → i < j → j < length numbers → slice_index_or numbers i 0 < slice_index_or numbers j 0

-- the transitions that have no target, by state and then by letter
pub record AreOpen (t : TreeState) (numbers : List ℕ) : Type 0 where
  pub within : (i : ℕ) → i < length numbers → slice_index_or numbers i 0 < length t.places
  pub stands : (i : ℕ) → i < length numbers → is_open (node_at t.nodes) (place_at t.places (slice_index_or numbers i 0)) ≡ true
  pub each : (k : ℕ) → k < length t.places → is_open (node_at t.nodes) (place_at t.places k) ≡ true → Contains numbers k
  pub rising : (i j : ℕ) → i < j → j < length numbers → slice_index_or numbers i 0 < slice_index_or numbers j 0
