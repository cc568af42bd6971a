-- Nodes by the lengths and the order of their words.
use Rattle.std.specs.Prelude.{◌≡◌, ◌≢◌, ◌⊎◌, ℕ, ◌<◌, List, length, slice_index, Option, Some, None, option_map}
use Rattle.std.specs.declared.cmp.Ordering.TheVariants.{Less}
use Rattle.lw_words.specs.Word.{shortlex_cmp}
use Rattle.lw_cache.specs.bodies.Trie.{word_of}
use Rattle.lw_cache.specs.declared.node.Node.{Node}

-- the lengths of the words of the nodes before the end
pub record AreLengths (at : ℕ → Node) (end : ℕ) (lengths : List ℕ) : Type 0 where
  pub long : length lengths ≡ end
  pub each : (j : ℕ) → j < end → slice_index lengths j ≡ length (word_of at j)

-- the word of a node, if there is one
abbrev pub word_of_some : (ℕ → Node) → Option ℕ → Option (List ℕ)
word_of_some at node = option_map (word_of at) node

-- the word that comes first
abbrev pub IsEarlierOf : Option (List ℕ) → List ℕ → Option (List ℕ) → Type 0
IsEarlierOf None w result = result ≡ Some w
IsEarlierOf (Some best) w result = ((result ≡ Some w) × (shortlex_cmp w best ≡ Less)) ⊎ ((result ≡ Some best) × (shortlex_cmp w best ≢ Less))
