-- The text of a journal of answers, and what is read of it.
use Rattle.std.specs.Prelude.{◌≡◌, ◌≢◌, None, ℕ, ◌<◌, ◌^◌, List, [], ◌∷◌, ◌++◌, length, map}
use Rattle.std.specs.List.{All, flat_map}
use Rattle.serde_json.specs.Data.{Data}
use Rattle.serde_json.specs.Written.{compact_text}
use Rattle.lw_words.specs.Word.{IsNames, named, word_text}
use Rattle.lw_words.specs.declared.kept.KeptAnswer.{KeptAnswer}
use Rattle.lw_json.specs.AnswersText.{answer_data}
use Rattle.lw_json.specs.Formats.{AreInputs, IsAnswersFile, WrittenAnswer, json_in, without_repeats}
use Rattle.lw_json.specs.Journal.{head_data}
use Rattle.lw_json.specs.KeptOver.{AreKeptOver}
use Rattle.lw_json.specs.declared.files.Answers.{Answers}

-- the one line of a value
abbrev pub line_text : Data → List ℕ
line_text d = compact_text d ++ 10 ∷ []

-- one head, and a run for each answer
abbrev pub journal_text : List (List ℕ) → List (List ℕ) → List KeptAnswer → List ℕ
journal_text inputs outputs ks = line_text (head_data inputs) ++ flat_map (λ k. line_text (answer_data inputs outputs k)) ks

-- an answer with its two words as texts
abbrev pub answer_texts : List (List ℕ) → List (List ℕ) → KeptAnswer → WrittenAnswer
answer_texts inputs outputs k = record { instance = k.instance; run = k.run; word = word_text inputs k.word; outs = word_text outputs k.outs }

-- the names of the outputs of answers, in the order in which they first appear
abbrev pub appearing : List (List ℕ) → List KeptAnswer → List (List ℕ)
appearing outputs ks = without_repeats (flat_map (λ k. named outputs k.outs) ks)

-- what a journal says: the inputs, the outputs in the order in which they appear, and the same answers in the same order
pub record AreOfJournal (inputs outputs : List (List ℕ)) (ks : List KeptAnswer) (a : Answers) : Type 0 where
  pub inputs_same : a.inputs ≡ inputs
  pub outputs_same : a.outputs ≡ appearing outputs ks
  pub answers_same : map (answer_texts inputs a.outputs) a.kept.answers ≡ map (answer_texts inputs outputs) ks

-- the front of a line that was cut off: no line, and no value
pub record IsLineFront (front : List ℕ) : Type 0 where
  pub open_line : All (λ b. b ≢ 10) front
  pub no_value : json_in front ≡ None

-- a journal of answers over names reads back, where an output appears; what was cut off at its end changes nothing
abbrev pub JournalsReadBack : Type 0
JournalsReadBack =
    (inputs outputs : List (List ℕ)) (ks : List KeptAnswer) (front : List ℕ) (a : Answers) → AreInputs inputs → IsNames outputs → AreKeptOver (length inputs) (length outputs) ks → All (λ k. k.run < 2 ^ 64) ks
    → 0 < length (appearing outputs ks) → IsLineFront front → AreOfJournal inputs outputs ks a → IsAnswersFile (journal_text inputs outputs ks ++ front) a
