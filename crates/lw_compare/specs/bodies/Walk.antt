-- The walk over the pairs of states, as far as it has come.
use Rattle.std.specs.Prelude.{◌≡◌, ℕ, ◌+◌, ◌<◌, ◌≤◌, List, [], ◌∷◌, ◌++◌, length, slice_index_or}
use Rattle.lw_json.specs.declared.files.Machine.{Machine}
use Rattle.lw_separate.specs.bodies.Search.{IsSearch}
use Rattle.lw_compare.specs.declared.walk.Step.{Step}
use Rattle.lw_compare.specs.declared.walk.Walk.{Walk}
use Rattle.lw_compare.specs.bodies.Joint.{AgreeAt, joint}

-- the word of a step: that of its parent, and its letter
abbrev pub word_of : List (List ℕ) → Step → List ℕ
word_of words s = slice_index_or words s.parent [] ++ s.letter ∷ []

-- words, and behind them those of steps, each of which may have an earlier one as its parent
abbrev pub words_from : List (List ℕ) → List Step → List (List ℕ)
words_from words [] = words
words_from words (s ∷ steps) = words_from (words ++ word_of words s ∷ []) steps

-- the words of a walk: the empty one, and one for each step
abbrev pub words_of : List Step → List (List ℕ)
words_of steps = words_from ([] ∷ []) steps

abbrev pub step_at : List Step → ℕ → Step
step_at steps k = slice_index_or steps k (record { parent = 0; letter = 0 })

-- the parent of each step stands before it
abbrev pub AreBack : List Step → Type 0
AreBack steps = (k : ℕ) → k < length steps → (step_at steps k).parent ≤ k

-- the search has reached the letter x of the i-th pair, and wherever it has been, outputs have one name
pub record Walked (first second : Machine) (w : Walk) (i x : ℕ) : Type 0 where
  pub search : IsSearch first.mealy.inputs (joint first second) (words_of w.steps.items) w.nodes.items w.places.items i x
  pub back : AreBack w.steps.items
  pub before : (j y : ℕ) → j < i → j < length w.nodes.items → y < first.mealy.inputs → AgreeAt first second (slice_index_or w.nodes.items j 0) y
  pub here : (y : ℕ) → y < x → y < first.mealy.inputs → AgreeAt first second (slice_index_or w.nodes.items i 0) y

-- the outputs at the letter x of the i-th pair are the first that differ
pub record Parts (first second : Machine) (w : Walk) (i x : ℕ) : Type 0 where
  pub walked : Walked first second w i x
  pub within : i < length w.nodes.items
  pub letter : x < first.mealy.inputs
  pub apart : ¬ AgreeAt first second (slice_index_or w.nodes.items i 0) x
