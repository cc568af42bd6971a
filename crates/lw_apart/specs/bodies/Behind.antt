-- What stands behind words in answers.
use Rattle.std.specs.Prelude.{◌≢◌, ℕ, ◌<◌, List, ◌++◌, length, Contains}
use Rattle.std.specs.List.{All}
use Rattle.lw_words.specs.Word.{Answer, answer_at, IsPrefix, IsWord}
use Rattle.lw_mealy.specs.Machine.{Rows, out, Gives, MealyMachine}
use Rattle.lw_cache.specs.Known.{IsKnown}

-- answers to words over the machine's letters, with which it agrees
pub record AreGiven (m : MealyMachine) (ks : List Answer) : Type 0 where
  pub letters : All (λ k. IsWord m.inputs k.word) ks
  pub given : Gives m.rows ks

-- the words of the answers with these numbers, and of no others, begin with the word
pub record AreBehind (ks : List Answer) (word : List ℕ) (numbers : List ℕ) : Type 0 where
  pub each : All (λ i. (i < length ks) × IsPrefix word (answer_at ks i).word) numbers
  pub whole : (i : ℕ) → i < length ks → IsPrefix word (answer_at ks i).word → Contains numbers i

-- a prefix of these letters is known behind the word, and the outputs from two states differ on it
abbrev pub PartsBehind : Rows → List Answer → List ℕ → ℕ → ℕ → List ℕ → Type 0
PartsBehind h ks word p q letters = (w : List ℕ) × IsPrefix w letters × IsKnown ks (word ++ w) × (out h p w ≢ out h q w)
