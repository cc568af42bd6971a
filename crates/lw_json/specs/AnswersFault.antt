-- The first fault of an answers file.
use Rattle.std.specs.Prelude.{◌≡◌, ◌≢◌, ℕ, List, [], ◌∷◌, Bool, Some, is_some, IsSome, codes}
use Rattle.lw_words.specs.First.{FailsFirst}
use Rattle.lw_words.specs.Word.{IsNames, IsWholeKept}
use Rattle.lw_words.specs.declared.kept.KeptAnswer.{KeptAnswer}
use Rattle.lw_json.specs.Formats.{Document, whole, lines, IsDocument, WrittenAnswer, WrittenAnswers, SaysAnswers, last_inputs, run_answers, answers_at, format_at, numbered_answer, each_of, AreInputs, is_object, texts_at}
use Rattle.lw_json.specs.Fault.{IsFaultOf, HasFault}
use Rattle.lw_json.specs.declared.fault.Field.{Field}
use Rattle.lw_json.specs.declared.fault.Field.TheVariants as field
use Rattle.lw_json.specs.declared.fault.JsonFault.{JsonFault}
use Rattle.lw_json.specs.declared.fault.JsonFault.TheVariants.{NotJson, Shape, Inputs, Outputs, UnknownOutput, Mealy, BadWord, Lengths, NoMemory}

-- the shapes of what an answers file has, in the order of their faults
abbrev pub answers_tests : Document → List (Field × Bool)
answers_tests (whole d) =
    (field.Root, is_object d)
    ∷ (field.Format, is_some (format_at d))
    ∷ (field.Inputs, is_some (texts_at (codes "inputs") d))
    ∷ (field.Outputs, is_some (texts_at (codes "outputs") d))
    ∷ (field.Answers, is_some (answers_at d))
    ∷ []
answers_tests (lines ds) = (field.Inputs, is_some (last_inputs ds)) ∷ (field.Answers, is_some (run_answers ds)) ∷ []

-- both texts of the answer are words
abbrev pub AnswerHasWords : List (List ℕ) → List (List ℕ) → WrittenAnswer → Type 0
AnswerHasWords inputs outputs a = IsSome (numbered_answer inputs outputs a)

-- the answers are words, and this one is the first whose two words have different lengths
abbrev pub IsUneven : List (List ℕ) → List (List ℕ) → List WrittenAnswer → ℕ → Type 0
IsUneven inputs outputs answers place = (kept : List KeptAnswer) × (each_of (numbered_answer inputs outputs) answers ≡ Some kept) × FailsFirst IsWholeKept kept place

-- what an answers file says has this fault first
abbrev pub SaysAnswersFault : WrittenAnswers → JsonFault → Type 0
SaysAnswersFault w NotJson = ⊥
SaysAnswersFault w (Shape field) = ⊥
SaysAnswersFault w (Inputs fault) = IsFaultOf 64 w.inputs fault
SaysAnswersFault w (Outputs fault) = AreInputs w.inputs × IsFaultOf 4096 w.outputs fault
SaysAnswersFault w (UnknownOutput state letter) = ⊥
SaysAnswersFault w (Mealy fault) = ⊥
SaysAnswersFault w (BadWord place) = AreInputs w.inputs × IsNames w.outputs × FailsFirst (AnswerHasWords w.inputs w.outputs) w.answers place
SaysAnswersFault w (Lengths place) = AreInputs w.inputs × IsNames w.outputs × IsUneven w.inputs w.outputs w.answers place
SaysAnswersFault w NoMemory = Unit {0}

abbrev pub HasAnswersFault : List ℕ → JsonFault → Type 0
HasAnswersFault bytes fault = HasFault IsDocument answers_tests SaysAnswers SaysAnswersFault bytes fault

-- bytes that are no answers file have this fault first
abbrev pub IsAnswersFault : List ℕ → JsonFault → Type 0
IsAnswersFault bytes fault = HasAnswersFault bytes fault × (fault ≢ NoMemory)
