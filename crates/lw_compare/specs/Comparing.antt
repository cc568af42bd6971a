-- What it means that two models with names give the same, and the least word on which they don't.
-- Source: the equivalence of machines of Moore (1956), over names in place of numbers.
use Rattle.std.specs.Prelude.{◌≡◌, ℕ, List, [], map, is_none, slice_index_or, unwrap_or}
use Rattle.std.specs.List.{filter}
use Rattle.std.specs.declared.cmp.Ordering.TheVariants.{Less}
use Rattle.lw_words.specs.Word.{named, number_in, number_of, shortlex_cmp, IsWord}
use Rattle.lw_mealy.specs.Machine.{answer}
use Rattle.lw_json.specs.declared.files.Machine.{Machine}

-- the word of the same names, by their numbers in another list
abbrev pub translated : List (List ℕ) → List (List ℕ) → List ℕ → List ℕ
translated names others w = map (λ x. number_in others (slice_index_or names x [])) w

-- what a model gives for a word, by the names of its outputs
abbrev pub reply : Machine → List ℕ → List (List ℕ)
reply m w = named m.outputs (answer m.mealy.rows w)

-- what the second model gives for a word of the first one's inputs
abbrev pub second_reply : Machine → Machine → List ℕ → List (List ℕ)
second_reply first second w = reply second (translated first.inputs second.inputs w)

abbrev pub ModelsAgreeOn : Machine → Machine → List ℕ → Type 0
ModelsAgreeOn first second w = reply first w ≡ second_reply first second w

-- the models give the same for every word
abbrev pub Agree : Machine → Machine → Type 0
Agree first second = (w : List ℕ) → IsWord first.mealy.inputs w → ModelsAgreeOn first second w

-- they differ on the word, and agree on each word before it in shortlex order, by the order of the first one's inputs
pub record IsLeastDifference (first second : Machine) (w : List ℕ) : Type 0 where
  pub word : IsWord first.mealy.inputs w
  pub differs : ¬ ModelsAgreeOn first second w
  pub least : (v : List ℕ) → IsWord first.mealy.inputs v → shortlex_cmp v w ≡ Less →
      ModelsAgreeOn first second v

-- the names of a list that another one hasn't, in their order
abbrev pub lacking : List (List ℕ) → List (List ℕ) → List (List ℕ)
lacking names others = filter (λ n. is_none (number_of n others)) names

-- neither model has an input that the other one hasn't
abbrev pub SameInputs : Machine → Machine → Type 0
SameInputs first second = (lacking first.inputs second.inputs ≡ []) × (lacking second.inputs first.inputs ≡ [])
