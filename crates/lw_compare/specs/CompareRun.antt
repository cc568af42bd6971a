-- What a call of `compare` did, for callers: all that its contract says, in one record.
use Rattle.std.specs.Prelude.{◌≡◌, ◌≢◌, ◌⊎◌, ℕ, List, [], None}
use Rattle.lw_words.specs.Cause.{CountedFault}
use Rattle.lw_json.specs.declared.files.Machine.{Machine}
use Rattle.lw_report.specs.Ends.{IsWithoutLearner}
use Rattle.lw_outside.specs.Files.{FilesState}
use Rattle.lw_outside.specs.Streams.{SinkState}
use Rattle.lw_report.specs.Writing.{TakesAll, TakesSome, said_text}
use Rattle.lw_report.specs.declared.«end».End.{End}
use Rattle.lw_report.specs.declared.comparison.Comparison.{Comparison}
use Rattle.lw_report.specs.declared.outcome.Outcome.{Outcome}
use Rattle.lw_report.specs.declared.outcome.Outcome.TheVariants.{Compared, NoMemory, SinkFault}
use Rattle.lw_compare.specs.Decision.{IsComparison}
use Rattle.lw_compare.specs.Outcomes.{ComesAs, IsAnswered, ComparesNothing, IsUntroubled, IsComparisonVerdict}
use Rattle.lw_compare.specs.Reading.{IsUnread, ReadsModels, TellsModel, TellsNoModel}

-- the text of the outcome, in which no numbers are named by a file
abbrev pub text : Outcome → List ℕ
text outcome = said_text None None [] 0 outcome

-- no models were read: nothing is put to `out`, and the text goes to `err`, whole where that counts no fault
pub record EndsUnread (one two : List ℕ) (files_before files_now : FilesState) (out_before out_now err_before err_now : SinkState) (outcome : Outcome) : Type 0 where
  pub cause : IsUnread one two files_before files_now outcome
  pub unwritten : out_now ≡ out_before
  pub said : ¬ CountedFault err_before.faults err_now.faults → TakesAll (text outcome) err_before.taken err_now.taken
  pub said_part : TakesSome (text outcome) err_before.taken err_now.taken

-- how the models compare; or memory ran out, or a stream refused a verdict
abbrev pub ComesTo : Machine → Machine → SinkState → SinkState → Outcome → Type 0
ComesTo first second out_before out_now outcome =
    ((c : Comparison) × IsComparison first second c × (outcome ≡ Compared c))
    ⊎ ((outcome ≡ NoMemory)
    ⊎ ((outcome ≡ SinkFault) × CountedFault out_before.faults out_now.faults × ((c : Comparison) × IsComparisonVerdict c × IsComparison first second c × TakesSome (text (Compared c)) out_before.taken out_now.taken)))

-- both models were read: a verdict is put to `out`, without a fault, and nothing to `err`; of any other outcome but a fault of a
-- stream `out` is as it was, and its text goes to `err`, whole where that counts no fault
pub record EndsModelsRead (one two : List ℕ) (files_before files_now : FilesState) (out_before out_now err_before err_now : SinkState) (outcome : Outcome) : Type 0 where
  pub first : Machine
  pub second : Machine
  pub read : ReadsModels one two files_before files_now first second
  pub comes : ComesTo first second out_before out_now outcome
  pub quiet : IsAnswered outcome → (out_now.faults ≡ out_before.faults) × (err_now.faults ≡ err_before.faults)
  pub written : IsAnswered outcome → TakesAll (text outcome) out_before.taken out_now.taken × (err_now.taken ≡ err_before.taken)
  pub unwritten : ¬ IsAnswered outcome → outcome ≢ SinkFault → out_now ≡ out_before
  pub said : ¬ IsAnswered outcome → ¬ CountedFault err_before.faults err_now.faults →
      TakesAll (text outcome) err_before.taken err_now.taken
  pub said_part : ¬ IsAnswered outcome → TakesSome (text outcome) err_before.taken err_now.taken

-- a call with these names of files changed files, `out` and `err` so, and came to the end
pub record IsCompareRun (one two : List ℕ) (files_before files_now : FilesState) (out_before out_now : SinkState) (err_before err_now : SinkState) (end : End) : Type 0 where
  pub no_model : end.model ≡ None
  pub no_learner : IsWithoutLearner end
  pub nothing_kept : end.kept.answers ≡ []
  pub no_outputs : end.outputs ≡ None
  pub untouched : files_now.holds ≡ files_before.holds
  pub ended : EndsUnread one two files_before files_now out_before out_now err_before err_now end.outcome ⊎ EndsModelsRead one two files_before files_now out_before out_now err_before err_now end.outcome
  -- where both files are observed, the outcome is how their models compare, but that memory, a file or a stream may
  -- fail
  pub exact :
      (first second : Machine) (c : Comparison)
      → TellsModel files_before.holds one first
      → TellsModel files_before.holds two second
      → IsComparison first second c
      → ComesAs c end.outcome
  -- where one of the files is observed to be no model's, or too long, nothing is compared
  pub refused : TellsNoModel files_before.holds one ⊎ TellsNoModel files_before.holds two → ComparesNothing end.outcome
  -- where both files are observed to be models', and neither the files nor `out` counted a fault, they are compared, or
  -- memory runs out
  pub untroubled :
      (first second : Machine)
      → TellsModel files_before.holds one first
      → TellsModel files_before.holds two second
      → ¬ CountedFault files_before.faults files_now.faults
      → ¬ CountedFault out_before.faults out_now.faults
      → IsUntroubled end.outcome
