-- What the steps of a new answer do to the nodes.
use Rattle.std.specs.Prelude.{◌≡◌, ◌≢◌, ◌⊎◌, ℕ, ◌+◌, ◌-◌, ◌<◌, ◌≤◌, List, [], ◌++◌, length, take, drop, slice_index_or, Option, Some, None, filter, not, ◌==◌}
use Rattle.lw_words.specs.Word.{IsPrefix}
use Rattle.lw_cache.specs.bodies.Trie.{no_answer, no_claim, node_at, word_of, held_at, IsChildOf, IsTrie, AreLeast, last_out}
use Rattle.lw_cache.specs.declared.node.Node.{Node}
use Rattle.lw_cache.specs.declared.node.Held.{Held}

-- the child of p with this letter, or 0 where there is none
abbrev pub IsChildAt : (ℕ → Node) → ℕ → ℕ → ℕ → ℕ → Type 0
IsChildAt at n p letter c =
    ((c ≡ 0) × ((j : ℕ) → IsChildOf at p n j → (at j).letter ≢ letter)) ⊎ (IsChildOf at p n c × ((at c).letter ≡ letter))

-- the node of the longest prefix of a word that has one
pub record IsReached (at : ℕ → Node) (n : ℕ) (w : List ℕ) (node depth : ℕ) : Type 0 where
  pub node_within : node < n
  pub depth_within : depth ≤ length w
  pub front : word_of at node ≡ take depth w
  pub last : (depth ≡ length w) ⊎ ((j : ℕ) → IsChildOf at node n j → (at j).letter ≢ slice_index_or w depth 0)

-- where the node has an answer, its output is this one's
abbrev pub AgreesAt : (ℕ → Node) → List ℕ → ℕ → Type 0
AgreesAt at outs i = (at i).answer ≢ no_answer → (at i).output ≡ last_out outs (word_of at i)

-- the node of this answer has another output at this place
pub record DisagreesAt (at : ℕ → Node) (n : ℕ) (w outs : List ℕ) (answer place : ℕ) : Type 0 where
  pub node : ℕ
  pub not_root : 0 < node
  pub within : node < n
  pub front : word_of at node ≡ take (place + 1) w
  pub long : place < length w
  pub told : (at node).answer ≡ answer
  pub some : answer ≢ no_answer
  pub other : (at node).output ≢ slice_index_or outs place 0

-- of the nodes on the way to w that are deeper than this, those up to the limit agree
abbrev pub AgreeBetween : (ℕ → Node) → ℕ → List ℕ → List ℕ → ℕ → ℕ → Type 0
AgreeBetween at n w outs depth limit =
    (i : ℕ) → 0 < i → i < n → IsPrefix (word_of at i) w → depth < length (word_of at i) → length (word_of at i) ≤ limit → AgreesAt at outs i

-- as far up as this depth, the first place on the way to w at which an answer has another output
abbrev pub ComparedTo : (ℕ → Node) → ℕ → List ℕ → List ℕ → ℕ → Option (ℕ × ℕ) → Type 0
ComparedTo at n w outs depth None = AgreeBetween at n w outs depth (length w)
ComparedTo at n w outs depth (Some found) = (depth ≤ found.1) × DisagreesAt at n w outs found.0 found.1 × AgreeBetween at n w outs depth found.1

-- the node has the new answer where it had none
abbrev pub marked : Node → ℕ → ℕ → Node
marked b answer output = record {
  letter = b.letter;
  output = output;
  parent = b.parent;
  first = b.first;
  next = b.next;
  answer = answer;
  claim = b.claim;
  ends = b.ends;
}

-- the nodes on the way to w that are deeper than this and had no answer have this one, and no other node is changed
pub record AreMarked (was at : ℕ → Node) (n : ℕ) (w outs : List ℕ) (answer depth : ℕ) : Type 0 where
  pub each : (i : ℕ) → (at i ≡ was i) ⊎ ((0 < i) × (i < n) × IsPrefix (word_of was i) w × ((was i).answer ≡ no_answer) × (at i ≡ marked (was i) answer (last_out outs (word_of was i))))
  pub way : (i : ℕ) → 0 < i → i < n → IsPrefix (word_of was i) w → depth < length (word_of was i) → ((was i).answer ≡ no_answer) → at i ≡ marked (was i) answer (last_out outs (word_of was i))

-- a node with this claim, and with this claim of its own word
abbrev pub with_claim : Node → ℕ → Node
with_claim b claim = record {
  letter = b.letter;
  output = b.output;
  parent = b.parent;
  first = b.first;
  next = b.next;
  answer = b.answer;
  claim = claim;
  ends = b.ends;
}

abbrev pub with_ends : Node → ℕ → Node
with_ends b ends = record {
  letter = b.letter;
  output = b.output;
  parent = b.parent;
  first = b.first;
  next = b.next;
  answer = b.answer;
  claim = b.claim;
  ends = ends;
}

-- nothing but claims is changed
abbrev pub SameButClaims : (ℕ → Node) → (ℕ → Node) → Type 0
SameButClaims was at = (i : ℕ) → at i ≡ with_claim (was i) (at i).claim

-- a node without children, answer and claim
abbrev pub fresh : ℕ → ℕ → ℕ → Node
fresh letter parent next = record { letter = letter; output = 0; parent = parent; first = 0; next = next; answer = no_answer; claim = no_claim; ends = no_claim }

abbrev pub with_first : Node → ℕ → Node
with_first b first = record {
  letter = b.letter;
  output = b.output;
  parent = b.parent;
  first = first;
  next = b.next;
  answer = b.answer;
  claim = b.claim;
  ends = b.ends;
}

-- the nodes with one more at their end, a child of p
pub record HasOneMore (was at : ℕ → Node) (n p letter : ℕ) : Type 0 where
  pub new : at n ≡ fresh letter p (was p).first
  pub parent : at p ≡ with_first (was p) n
  pub others : (i : ℕ) → i ≢ p → i ≢ n → at i ≡ was i

-- the node of a word; 0 where it is empty, or where no node's word begins with it
abbrev pub IsFound : (ℕ → Node) → ℕ → List ℕ → ℕ → Type 0
IsFound at n w node =
    ((node ≡ 0) × ((i : ℕ) → 0 < i → i < n → IsPrefix w (word_of at i) → w ≡ [])) ⊎ ((0 < node) × (node < n) × (word_of at node ≡ w))

-- the nodes with k more at their end: one for each of the first k letters, below p and each below the one before; the
-- last of them, or p, has no child with the next letter
pub record IsExtended (was at : ℕ → Node) (n p : ℕ) (letters : List ℕ) (k node : ℕ) : Type 0 where
  pub trie : IsTrie at (n + k)
  pub old : (i : ℕ) → i < n → at i ≡ with_first (was i) (at i).first
  pub blank : (i : ℕ) → n ≤ i → i < n + k → ((at i).answer ≡ no_answer) × ((at i).claim ≡ no_claim) × ((at i).ends ≡ no_claim)
  pub words : (i : ℕ) → n ≤ i → i < n + k → word_of at i ≡ word_of was p ++ take (i - n + 1) letters
  pub node_within : node < n + k
  pub node_word : word_of at node ≡ word_of was p ++ take k letters
  pub free : k < length letters → (j : ℕ) → IsChildOf at node (n + k) j → (at j).letter ≢ slice_index_or letters k 0

-- the nodes after they were made to tell a new answer: first more of them, down to its word, and then marks
pub record IsTold (was at : List Node) (w outs : List ℕ) (answer : ℕ) : Type 0 where
  pub mid : List Node
  pub parent : ℕ
  pub depth : ℕ
  pub last : ℕ
  pub reached : IsReached (node_at was) (length was) w parent depth
  pub extended : IsExtended (node_at was) (node_at mid) (length was) parent (drop depth w) (length (drop depth w)) last
  pub mid_long : length mid ≡ length was + length (drop depth w)
  pub marks : AreMarked (node_at mid) (node_at at) (length mid) (word_of (node_at mid) last) outs answer 0
  pub long : length at ≡ length mid

-- the node's word has this claim of its own now, and all claims are least ones again
pub record IsReclaimed (was at : ℕ → Node) (n end ends : ℕ) : Type 0 where
  pub here : at end ≡ with_claim (with_ends (was end) ends) (at end).claim
  pub others : (i : ℕ) → i ≢ end → at i ≡ with_claim (was i) (at i).claim
  pub least : AreLeast at n

-- the nodes once a word has one: more of them at the end, where some of its letters have none
pub record IsPlaced (was at : List Node) (w : List ℕ) (last : ℕ) : Type 0 where
  pub parent : ℕ
  pub depth : ℕ
  pub reached : IsReached (node_at was) (length was) w parent depth
  pub extended : IsExtended (node_at was) (node_at at) (length was) parent (drop depth w) (length (drop depth w)) last
  pub long : length at ≡ length was + length (drop depth w)

-- the held claim with this number ends at this node
abbrev pub IsEndOf : List Held → ℕ → ℕ → Type 0
IsEndOf held number end = (k : ℕ) × (k < length held) × ((held_at held k).number ≡ number) × ((held_at held k).end ≡ end)

-- some held claim has this number
abbrev pub IsHeld : List Held → ℕ → Type 0
IsHeld held number = (k : ℕ) × (k < length held) × ((held_at held k).number ≡ number)

-- the held claims without that of this number
abbrev pub without_held : ℕ → List Held → List Held
without_held number held = filter (λ h. not (h.number == number)) held
