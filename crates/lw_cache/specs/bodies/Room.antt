-- The room of a cache.
use Rattle.std.specs.Prelude.{ℕ, ◌+◌, ◌<◌, ◌≤◌}
use Rattle.lw_cache.specs.bodies.Trie.{no_answer}

-- there is room for this many words with this many letters: of nodes, of claims and of answers, and for their numbers
pub record HasRoom (words letters nodes most_nodes held most_held kept kept_room : ℕ) : Type 0 where
  pub rooted : 0 < words + letters → 0 < nodes
  pub nodes_fit : nodes + letters ≤ most_nodes
  pub nodes_few : nodes + letters ≤ no_answer
  pub held_fit : held + words ≤ most_held
  pub kept_fit : held + words ≤ kept_room
  pub kept_few : kept + held + words ≤ no_answer
