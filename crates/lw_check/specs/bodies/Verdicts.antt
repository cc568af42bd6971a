-- The outcome of a verdict.
use Rattle.std.specs.Prelude.{◌≡◌, ℕ, List, length}
use Rattle.lw_words.specs.Word.{Answer}
use Rattle.lw_mealy.specs.Machine.{MealyMachine}
use Rattle.lw_chunks.specs.declared.method.Method.{Method}
use Rattle.lw_certify.specs.Verdict.{IsVerdict}
use Rattle.lw_certify.specs.declared.verdict.Verdict.{Verdict}
use Rattle.lw_certify.specs.declared.verdict.Verdict.TheVariants as verdict
use Rattle.lw_report.specs.declared.outcome.Outcome.{Outcome}
use Rattle.lw_report.specs.declared.outcome.Outcome.TheVariants.{Yes, No, SuiteTooLarge}

abbrev pub outcome_of : ℕ → Verdict → Outcome
outcome_of states verdict.Sure = Yes states
outcome_of states (verdict.TooLarge number) = SuiteTooLarge states number
outcome_of states v = No v

-- the outcome of the verdict by the method
abbrev pub HasOutcome : Method → MealyMachine → List Answer → ℕ → Outcome → Type 0
HasOutcome method m ks extra outcome = (v : Verdict) × IsVerdict method m.inputs m.rows ks extra v × (outcome ≡ outcome_of (length m.rows) v)
