-- Two models that go together, by the letters of the first one: a machine over the pairs of their states.
use Rattle.std.specs.Prelude.{◌≡◌, ℕ, ◌+◌, ◌*◌, ◌/◌, ◌%◌, ◌<◌, List, [], length, map, slice_index_or, Option, None}
use Rattle.std.specs.List.{range_with_len}
use Rattle.lw_words.specs.Word.{IsNames, number_of, number_in}
use Rattle.lw_mealy.specs.Machine.{IsWithinLimits, Row, Rows, next, output}
use Rattle.lw_json.specs.declared.files.Machine.{Machine}
use Rattle.lw_compare.specs.Comparing.{SameInputs}

-- the number of a letter in the second model
abbrev pub letter_in : Machine → Machine → ℕ → ℕ
letter_in first second x = number_in second.inputs (slice_index_or first.inputs x [])

-- a pair of states p and q has the number p * b + q, with b states of the second model
abbrev pub joint_next : Machine → Machine → ℕ → ℕ → ℕ
joint_next first second k x =
    next first.mealy.rows (k / length second.mealy.rows) x * length second.mealy.rows
    + next second.mealy.rows (k % length second.mealy.rows) (letter_in first second x)

abbrev pub joint_row : Machine → Machine → ℕ → Row
joint_row first second k = map (λ x. (joint_next first second k x, 0)) (range_with_len 0 first.mealy.inputs)

-- the machine over all pairs; its outputs say nothing
abbrev pub joint : Machine → Machine → Rows
joint first second = map (joint_row first second) (range_with_len 0 (length first.mealy.rows * length second.mealy.rows))

-- at a letter both states of a pair have outputs of one name
abbrev pub AgreeAt : Machine → Machine → ℕ → ℕ → Type 0
AgreeAt first second k x =
    slice_index_or first.outputs (output first.mealy.rows (k / length second.mealy.rows) x) []
    ≡ slice_index_or second.outputs (output second.mealy.rows (k % length second.mealy.rows) (letter_in first second x)) []

-- the number of each name among others, where it has one
pub record AreNumbers (names others : List (List ℕ)) (numbers : List (Option ℕ)) : Type 0 where
  pub all : length numbers ≡ length names
  pub each : (k : ℕ) → k < length numbers → number_of (slice_index_or names k []) others ≡ slice_index_or numbers k None

-- the number of each name among others; 0 where it has none
pub record AreLetters (names others : List (List ℕ)) (letters : List ℕ) : Type 0 where
  pub all : length letters ≡ length names
  pub each : (k : ℕ) → k < length letters → number_in others (slice_index_or names k []) ≡ slice_index_or letters k 0

-- the number of each input in the second model, and of each output, where it has one; both models are within their
-- limits, and have the same inputs
pub record IsDictionary (first second : Machine) (numbers : List ℕ) (places : List (Option ℕ)) : Type 0 where
  pub one : IsWithinLimits first.mealy
  pub two : IsWithinLimits second.mealy
  pub same : SameInputs first second
  pub names : IsNames second.outputs
  pub letters : AreLetters first.inputs second.inputs numbers
  pub outputs : AreNumbers first.outputs second.outputs places
