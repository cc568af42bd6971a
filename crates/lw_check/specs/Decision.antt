-- The outcome of a model and answers with their names.
use Rattle.std.specs.Prelude.{◌≡◌, ℕ, List, length}
use Rattle.lw_words.specs.Word.{AreAnswers, answers_of}
use Rattle.lw_words.specs.declared.kept.KeptAnswer.{KeptAnswer}
use Rattle.lw_mealy.specs.Machine.{MealyMachine, IsMachine, IsMinimal, Gives, Sure}
use Rattle.lw_json.specs.declared.files.Machine.{Machine}
use Rattle.lw_json.specs.declared.files.Answers.{Answers as Given}
use Rattle.lw_cache.specs.Clash.{NothingClashes}
use Rattle.lw_chunks.specs.declared.method.Method.{Method}
use Rattle.lw_certify.specs.Verdict.{IsVerdict}
use Rattle.lw_certify.specs.declared.verdict.Verdict.{Verdict}
use Rattle.lw_certify.specs.declared.verdict.Verdict.TheVariants as verdict
use Rattle.lw_cache.specs.FirstClash.{IsFirstClash}
use Rattle.lw_report.specs.declared.role.Role.TheVariants.{Answers}
use Rattle.lw_report.specs.declared.outcome.Outcome.{Outcome}
use Rattle.lw_report.specs.declared.outcome.Outcome.TheVariants.{Yes, No, Alphabets, Nondeterministic, SuiteTooLarge}

-- a model with its names, and answers with theirs
pub record Pair : Type 0 where
  pub inputs : List (List ℕ)
  pub outputs : List (List ℕ)
  pub mealy : MealyMachine
  pub answer_inputs : List (List ℕ)
  pub answer_outputs : List (List ℕ)
  pub kept : List KeptAnswer

abbrev pub pair_of : Machine → Given → Pair
pair_of m a = record { inputs = m.inputs; outputs = m.outputs; mealy = m.mealy; answer_inputs = a.inputs; answer_outputs = a.outputs; kept = a.kept.answers }

abbrev pub SameNames : Pair → Type 0
SameNames p = (p.answer_inputs ≡ p.inputs) × (p.answer_outputs ≡ p.outputs)

-- the answers fix the model: the names are the same, it is minimal and agrees with them, and every machine that agrees
-- with them and has at most this many states more equals it on all words
pub record IsFixed (p : Pair) (extra : ℕ) : Type 0 where
  pub names : SameNames p
  pub minimal : IsMinimal p.mealy.inputs p.mealy.rows
  pub gives : Gives p.mealy.rows (answers_of p.kept)
  pub sure : Sure p.mealy.inputs p.mealy.rows (answers_of p.kept) extra

-- the names are the same, nothing clashes, and this is the verdict by the method
abbrev pub HasVerdict : Method → Pair → ℕ → Verdict → Type 0
HasVerdict method p extra v = SameNames p × NothingClashes (answers_of p.kept) × IsVerdict method p.mealy.inputs p.mealy.rows (answers_of p.kept) extra v

-- neither too large nor sure
abbrev pub IsNo : Verdict → Type 0
IsNo (verdict.TooLarge size) = ⊥
IsNo verdict.Sure = ⊥
IsNo _ = Unit {0}

-- the outcome of the pair: the first that applies of other names, two answers that clash, and the verdict
abbrev pub IsDecision : Method → Pair → ℕ → Outcome → Type 0
IsDecision method p extra (Alphabets role) = (role ≡ Answers) × (¬ SameNames p)
IsDecision method p extra (Nondeterministic clash) = SameNames p × IsFirstClash (answers_of p.kept) clash
IsDecision method p extra (Yes states) = HasVerdict method p extra verdict.Sure × (states ≡ length p.mealy.rows)
IsDecision method p extra (No v) = HasVerdict method p extra v × IsNo v
IsDecision method p extra (SuiteTooLarge states number) = HasVerdict method p extra (verdict.TooLarge number) × (states ≡ length p.mealy.rows)
IsDecision method p extra _ = ⊥

-- a pair has one outcome at most, by each method
abbrev pub OneDecision : Type 0
OneDecision = (method : Method) (p : Pair) (extra : ℕ) (one two : Outcome) → IsDecision method p extra one → IsDecision method p extra two → one ≡ two

-- a machine and answers over the letters that they name have an outcome
abbrev pub SomeDecision : Type 0
SomeDecision = (method : Method) (p : Pair) (extra : ℕ) → IsMachine p.mealy.inputs p.mealy.rows
    → AreAnswers (length p.answer_inputs) (answers_of p.kept)
    → (outcome : Outcome) × IsDecision method p extra outcome

-- an outcome of this kind
abbrev pub IsDecided : Outcome → Type 0
IsDecided (Alphabets role) = role ≡ Answers
IsDecided (Nondeterministic clash) = Unit {0}
IsDecided (Yes states) = Unit {0}
IsDecided (No v) = Unit {0}
IsDecided (SuiteTooLarge states number) = Unit {0}
IsDecided _ = ⊥

-- a yes or a no, whose text goes to `out`
abbrev pub IsYesOrNo : Outcome → Type 0
IsYesOrNo (Yes states) = Unit {0}
IsYesOrNo (No v) = Unit {0}
IsYesOrNo _ = ⊥
