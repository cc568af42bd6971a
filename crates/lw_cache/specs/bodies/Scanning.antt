-- What is seen of the nodes as they are gone through once.
use Rattle.std.specs.Prelude.{◌≡◌, ◌≢◌, ◌⊎◌, ◌↔◌, ℕ, ◌<◌, List, length, Contains, Option, Some, None, slice_index}
use Rattle.std.specs.declared.cmp.Ordering.TheVariants.{Less}
use Rattle.lw_words.specs.Word.{AllDiffer, shortlex_cmp}
use Rattle.lw_mealy.specs.Machine.{Rows, after, output}
use Rattle.lw_cache.specs.bodies.Trie.{word_of, no_answer, no_claim}
use Rattle.lw_cache.specs.declared.node.Node.{Node}

-- the node's word is known, or begins a claimed word
abbrev pub IsLive : Node → Type 0
IsLive b = (b.answer ≢ no_answer) ⊎ (b.claim ≢ no_claim)

-- one of the nodes before the end, the root aside, has the word and is live
abbrev pub IsLiveWord : (ℕ → Node) → ℕ → List ℕ → Type 0
IsLiveWord at end w = (j : ℕ) × (0 < j) × (j < end) × IsLive (at j) × (word_of at j ≡ w)

-- this many of the nodes before the end are live
pub record CountsLive (at : ℕ → Node) (end count : ℕ) : Type 0 where
  pub words : List (List ℕ)
  pub counted : length words ≡ count
  pub differ : AllDiffer words
  pub exactly : (w : List ℕ) → Contains words w ↔ IsLiveWord at end w

-- the node tells an answer whose output there isn't the machine's
pub record DiffersAt (at : ℕ → Node) (n : ℕ) (m : Rows) (j : ℕ) : Type 0 where
  pub positive : 0 < j
  pub within : j < n
  pub told : (at j).answer ≢ no_answer
  pub other : (at j).output ≢ output m (after m 0 (word_of at (at j).parent)) (at j).letter

-- the first word in shortlex order of a node before the end at which the machine differs
abbrev pub IsFirstTo : (ℕ → Node) → ℕ → Rows → ℕ → Option (List ℕ) → Type 0
IsFirstTo at n m end None = (j : ℕ) → j < end → ¬ DiffersAt at n m j
IsFirstTo at n m end (Some w) =
    ((j : ℕ) × DiffersAt at n m j × (word_of at j ≡ w)) × ((j : ℕ) → j < end → DiffersAt at n m j → shortlex_cmp (word_of at j) w ≢ Less)

-- for each node before the end that tells an answer, the machine's state after its word
pub record AreStates (at : ℕ → Node) (m : Rows) (end : ℕ) (states : List ℕ) : Type 0 where
  pub long : length states ≡ end
  pub first : slice_index states 0 ≡ 0
  pub within : (j : ℕ) → j < end → slice_index states j < length m
  pub state : (j : ℕ) → 0 < j → j < end → (at j).answer ≢ no_answer → slice_index states j ≡ after m 0 (word_of at j)

-- a node that tells an answer has a letter below a, and so has its parent, if it isn't the root
abbrev pub AreLetters : (ℕ → Node) → ℕ → ℕ → Type 0
AreLetters at n a = (j : ℕ) → 0 < j → j < n → (at j).answer ≢ no_answer → ((at j).letter < a) × (((at j).parent ≡ 0) ⊎ ((at (at j).parent).answer ≢ no_answer))
