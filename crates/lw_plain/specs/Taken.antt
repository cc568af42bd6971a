-- Which words of the batches are asked of a system: of each batch in turn those that aren't known, each once, but those that another
-- word of the batch begins with.
use Rattle.std.specs.Prelude.{◌≡◌, ◌≢◌, ◌↔◌, ℕ, List, [], ◌∷◌, ◌++◌, Contains}
use Rattle.std.specs.List.Sorted.{IsPermutation}
use Rattle.lw_words.specs.Word.{Answer, IsPrefix, AllDiffer}
use Rattle.lw_mealy.specs.Machine.{Rows}
use Rattle.lw_cache.specs.Asked.{AreAsked}
use Rattle.lw_plain.specs.Known.{BeginsOne, KnowsWords}
use Rattle.lw_plain.specs.Rounds.{asked_words}

-- a word of the batch that isn't empty, begins none of the words that were asked, and begins no other word of the batch
pub record IsTaken (batch words : List (List ℕ)) (w : List ℕ) : Type 0 where
  pub within : Contains batch w
  pub some : w ≢ []
  pub new : ¬ BeginsOne words w
  pub whole : (v : List ℕ) → Contains batch v → IsPrefix w v → v ≡ w

-- these are all such words, each once
pub record AreTaken (batch words taken : List (List ℕ)) : Type 0 where
  pub exactly : (w : List ℕ) → Contains taken w ↔ IsTaken batch words w
  pub once : AllDiffer taken

-- the words that are taken from batches in turn, where these words were asked before
abbrev pub AreTakenInTurn : List (List ℕ) → List (List (List ℕ)) → List (List ℕ) → Type 0
AreTakenInTurn words [] taken = taken ≡ []
AreTakenInTurn words (batch ∷ batches) taken = (first : List (List ℕ)) × (rest : List (List ℕ)) × AreTaken batch words first × AreTakenInTurn (words ++ batch) batches rest × (taken ≡ first ++ rest)

-- what has to be asked of a batch, by answers of which these words are known, is what is taken from it
abbrev pub AskedAreTaken : Type 0
AskedAreTaken = (m : Rows) (words batch : List (List ℕ)) (ks : List Answer) (asked : List (List ℕ)) → KnowsWords m words ks → AreAsked batch ks asked → AreTaken batch words asked

-- batches behind others
abbrev pub TakesOnAndOn : Type 0
TakesOnAndOn = (words : List (List ℕ)) (batches more : List (List (List ℕ))) (taken after : List (List ℕ)) → AreTakenInTurn words batches taken
    → AreTakenInTurn (words ++ asked_words batches) more after → AreTakenInTurn words (batches ++ more) (taken ++ after)

-- what is taken from batches in turn is one, but for the order
abbrev pub TakenIsOne : Type 0
TakenIsOne = (words : List (List ℕ)) (batches : List (List (List ℕ))) (taken other : List (List ℕ)) → AreTakenInTurn words batches taken → AreTakenInTurn words batches other → IsPermutation taken other
