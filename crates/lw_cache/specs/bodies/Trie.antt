-- The nodes of the trie, and what they tell of answers and claims.
use Rattle.std.specs.Prelude.{◌≡◌, ◌≢◌, ◌⊎◌, ℕ, zero, suc, ◌-◌, ◌<◌, ◌≤◌, List, [], ◌∷◌, ◌++◌, length, map, slice_index_or}
use Rattle.std.specs.List.{All}
use Rattle.lw_words.specs.Word.{Answer, answer_at, answers_of, IsWhole, IsPrefix}
use Rattle.lw_words.specs.declared.kept.KeptAnswer.{KeptAnswer}
use Rattle.lw_cache.specs.Caching.{Claim}
use Rattle.lw_cache.specs.Clash.{IsClear}
use Rattle.lw_cache.specs.declared.node.Node.{Node}
use Rattle.lw_cache.specs.declared.node.Held.{Held}

-- in place of the number of an answer, and of a claim: there is none
abbrev pub no_answer : ℕ
no_answer = 4294967295

abbrev pub no_claim : ℕ
no_claim = 4294967296

abbrev pub no_node : Node
no_node = record { letter = 0; output = 0; parent = 0; first = 0; next = 0; answer = 0; claim = 0; ends = 0 }

-- the empty word's node, where nothing is below it
abbrev pub root : Node
root = record { letter = 0; output = 0; parent = 0; first = 0; next = 0; answer = no_answer; claim = no_claim; ends = no_claim }

abbrev pub node_at : List Node → ℕ → Node
node_at nodes i = slice_index_or nodes i no_node

-- the letters from the root to a node, where there are at most this many
abbrev pub spell : (ℕ → Node) → ℕ → ℕ → List ℕ
spell at zero i = []
spell at (suc most) zero = []
spell at (suc most) (suc i) = spell at most (at (suc i)).parent ++ (at (suc i)).letter ∷ []

-- the word of a node
abbrev pub word_of : (ℕ → Node) → ℕ → List ℕ
word_of at i = spell at i i

-- one of the nodes before the bound is a child of p
abbrev pub IsChildOf : (ℕ → Node) → ℕ → ℕ → ℕ → Type 0
IsChildOf at p bound j = (0 < j) × (j < bound) × ((at j).parent ≡ p)

-- the newest child of p before the bound, or 0 where there is none
pub record IsNewest (at : ℕ → Node) (p bound c : ℕ) : Type 0 where
  pub is : (c ≡ 0) ⊎ IsChildOf at p bound c
  pub newest : (j : ℕ) → IsChildOf at p bound j → j ≤ c

-- parents stand before their children; from a node's first child by `next` all are reached; no two have one letter
pub record IsTrie (at : ℕ → Node) (n : ℕ) : Type 0 where
  pub up : (i : ℕ) → 0 < i → i < n → (at i).parent < i
  pub first : (i : ℕ) → i < n → IsNewest at i n (at i).first
  pub next : (c : ℕ) → 0 < c → c < n → IsNewest at (at c).parent c (at c).next
  pub differ : (i j : ℕ) → 0 < i → i < j → j < n → (at i).parent ≡ (at j).parent → (at i).letter ≢ (at j).letter

-- the output that an answer has at the end of a word
abbrev pub last_out : List ℕ → List ℕ → ℕ
last_out outs w = slice_index_or outs (length w - 1) 0

-- each node tells the earliest clear answer whose word begins with its word, and that answer's output there
pub record AreAnswered (at : ℕ → Node) (n : ℕ) (ks : List Answer) : Type 0 where
  pub clear : (i : ℕ) → 0 < i → i < n → (at i).answer ≢ no_answer → IsClear ks (at i).answer × IsPrefix (word_of at i) (answer_at ks (at i).answer).word
  pub each : (a : ℕ) → IsClear ks a → (i : ℕ) → 0 < i → i < n → IsPrefix (word_of at i) (answer_at ks a).word → ((at i).answer ≤ a) × ((at i).output ≡ last_out (answer_at ks a).outs (word_of at i))
  pub has : (a : ℕ) → IsClear ks a → (e : ℕ) × (e < n) × (word_of at e ≡ (answer_at ks a).word)

-- a node's claim is the least of its own and its children's
pub record IsLeast (at : ℕ → Node) (n i : ℕ) (claim : ℕ) : Type 0 where
  pub own : claim ≤ (at i).ends
  pub below : (j : ℕ) → IsChildOf at i n j → claim ≤ (at j).claim
  pub some : (claim ≡ (at i).ends) ⊎ ((j : ℕ) × IsChildOf at i n j × (claim ≡ (at j).claim))

abbrev pub held_at : List Held → ℕ → Held
held_at held k = slice_index_or held k (record { number = 0; end = 0 })

-- each held claim ends at a node that tells its number, and no other node tells one; no number is held twice
pub record AreEnds (at : ℕ → Node) (n : ℕ) (held : List Held) : Type 0 where
  pub within : (k : ℕ) → k < length held → (0 < (held_at held k).end) × ((held_at held k).end < n)
  pub told : (k : ℕ) → k < length held → (at (held_at held k).end).ends ≡ (held_at held k).number
  pub few : (k : ℕ) → k < length held → (held_at held k).number < no_claim
  pub only : (i : ℕ) → 0 < i → i < n → (at i).ends ≢ no_claim → (k : ℕ) × (k < length held) × ((held_at held k).end ≡ i)
  pub once : (k l : ℕ) → k < l → l < length held → (held_at held k).number ≢ (held_at held l).number

-- each node but the root tells the least claim of a word that begins with its word
abbrev pub AreLeast : (ℕ → Node) → ℕ → Type 0
AreLeast at n = (i : ℕ) → 0 < i → i < n → IsLeast at n i (at i).claim

-- the claims, with the words of their nodes
abbrev pub claims_of : (ℕ → Node) → List Held → List Claim
claims_of at held = map (λ h. record { number = h.number; word = word_of at h.end }) held

-- what the nodes are of the recorded answers and the claims
pub record IsStored (at : ℕ → Node) (n : ℕ) (held : List Held) (kept : List KeptAnswer) : Type 0 where
  pub trie : IsTrie at n
  pub answered : AreAnswered at n (answers_of kept)
  pub ends : AreEnds at n held
  pub least : AreLeast at n
  pub whole : All IsWhole (answers_of kept)
