-- What a call of `check` did, for callers: all that its contract says, in one record.
use Rattle.std.specs.Prelude.{◌≡◌, ◌⊎◌, ℕ, List, length, None}
use Rattle.lw_json.specs.Formats.{IsAnswersFile}
use Rattle.lw_json.specs.declared.files.Answers.{Answers}
use Rattle.lw_json.specs.declared.files.Machine.{Machine}
use Rattle.lw_chunks.specs.declared.method.Method.{Method}
use Rattle.lw_check.specs.Decision.{IsDecision, IsFixed, Pair, pair_of}
use Rattle.lw_check.specs.Ending.{DecidesAs, EndsPairRead, EndsUnread}
use Rattle.lw_system.specs.Goals.{IsModelFile}
use Rattle.lw_system.specs.Reading.{TellsFile}
use Rattle.lw_system.specs.declared.goal.Goal.{Goal}
use Rattle.lw_check.specs.Reading.{ReadsPair}
use Rattle.lw_report.specs.Ends.{IsWithoutLearner}
use Rattle.lw_outside.specs.Files.{FilesState}
use Rattle.lw_outside.specs.Streams.{SinkState}
use Rattle.lw_report.specs.declared.«end».End.{End}
use Rattle.lw_report.specs.declared.outcome.Outcome.{Outcome}
use Rattle.lw_report.specs.declared.outcome.Outcome.TheVariants.{Yes}

-- a call with these arguments, of which the first says what the model file is of, changed files, `out` and `err` so, and came to
-- the end
pub record IsCheckRun (aim : Goal) (method : Method) (model answers : List ℕ) (extra : ℕ) (files_before files_now : FilesState) (out_before out_now : SinkState) (err_before err_now : SinkState) (end : End) : Type 0 where
  pub no_model : end.model ≡ None
  pub no_learner : IsWithoutLearner end
  pub untouched : files_now.holds ≡ files_before.holds
  pub ended : EndsUnread aim model answers files_before files_now extra out_before out_now err_before err_now end.outcome end.kept.answers end.outputs ⊎
      EndsPairRead aim method model answers files_before files_now extra out_before out_now err_before err_now end.outcome end.kept.answers end.outputs
  -- where both files are observed, the outcome is their one decision, but that memory, a file or a stream may fail
  pub exact :
      (m : Machine) (a : Answers) (decision : Outcome)
      → TellsFile (IsModelFile aim) files_before.holds model m
      → TellsFile IsAnswersFile files_before.holds answers a
      → IsDecision method (pair_of m a) extra decision
      → DecidesAs decision end.outcome
  -- a yes implies that the answers fix the model, which has this many states
  pub sure : (states : ℕ) → end.outcome ≡ Yes states → (pair : Pair) ×
      ReadsPair aim model answers files_before files_now pair × IsFixed pair extra × (states ≡ length pair.mealy.rows)
