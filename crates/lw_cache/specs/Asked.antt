-- The words of a batch that have to be asked.
use Rattle.std.specs.Prelude.{◌≡◌, ◌↔◌, ℕ, List, Contains}
use Rattle.lw_words.specs.Word.{Answer, IsPrefix, AllDiffer}
use Rattle.lw_cache.specs.Known.{IsKnown}

-- a word of the batch that isn't known, and that no other word of the batch begins with
pub record IsAsked (batch : List (List ℕ)) (ks : List Answer) (w : List ℕ) : Type 0 where
  pub within : Contains batch w
  pub unknown : ¬ IsKnown ks w
  pub whole : (v : List ℕ) → Contains batch v → IsPrefix w v → v ≡ w

-- these are all such words, each once
pub record AreAsked (batch : List (List ℕ)) (ks : List Answer) (words : List (List ℕ)) : Type 0 where
  pub exactly : (w : List ℕ) → Contains words w ↔ IsAsked batch ks w
  pub once : AllDiffer words
