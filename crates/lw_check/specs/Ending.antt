-- How the command ends.
use Rattle.std.specs.Prelude.{◌≡◌, ◌≢◌, ◌⊎◌, ℕ, List, [], Option, None}
use Rattle.lw_words.specs.Cause.{CountedFault}
use Rattle.lw_words.specs.declared.kept.KeptAnswer.{KeptAnswer}
use Rattle.lw_names.specs.Naming.{Naming}
use Rattle.lw_chunks.specs.declared.method.Method.{Method}
use Rattle.lw_check.specs.Naming.{NamesOutputs}
use Rattle.lw_check.specs.Decision.{IsYesOrNo, IsDecision, Pair}
use Rattle.lw_check.specs.Reading.{IsUnread, ReadsPair}
use Rattle.lw_outside.specs.Files.{FilesState}
use Rattle.lw_outside.specs.Streams.{SinkState}
use Rattle.lw_system.specs.declared.goal.Goal.{Goal}
use Rattle.lw_report.specs.Text.{text_of}
use Rattle.lw_report.specs.Writing.{TakesAll, TakesSome}
use Rattle.lw_report.specs.declared.outcome.Outcome.{Outcome}
use Rattle.lw_report.specs.declared.outcome.Outcome.TheVariants.{NoMemory, FileFault, SinkFault}
use Rattle.lw_report.specs.declared.role.Role.{Role}

-- no pair was read: no answers are kept, no outputs are named, nothing is put to `out`, and the outcome's text goes to `err`,
-- whole where that counts no fault
pub record EndsUnread (aim : Goal) (model answers : List ℕ) (before now : FilesState) (extra : ℕ) (out out_now err err_now : SinkState) (outcome : Outcome) (kept : List KeptAnswer) (outputs : Option Naming) : Type 0 where
  pub cause : IsUnread aim model answers before now outcome
  pub kept_none : kept ≡ []
  pub unnamed : outputs ≡ None
  pub unwritten : out_now ≡ out
  pub said : ¬ CountedFault err.faults err_now.faults →
      TakesAll (text_of [] [] [] extra outcome) err.taken err_now.taken
  pub said_part : TakesSome (text_of [] [] [] extra outcome) err.taken err_now.taken

-- the outcome of the pair by the method; or memory ran out, or a stream refused a yes or a no
abbrev pub ComesTo : Method → Pair → ℕ → SinkState → SinkState → Outcome → Type 0
ComesTo method pair extra out out_now outcome =
    IsDecision method pair extra outcome
    ⊎ ((outcome ≡ NoMemory)
    ⊎ ((outcome ≡ SinkFault) × CountedFault out.faults out_now.faults × ((decision : Outcome) × IsYesOrNo decision × IsDecision method pair extra decision × TakesSome (text_of pair.inputs pair.outputs pair.kept extra decision) out.taken out_now.taken)))

-- a pair was read: its answers are kept, and its outputs are named; a yes or a no is put to `out`, without a fault, and nothing
-- to `err`; of any other outcome but a fault of a stream nothing is put to `out`, and its text goes to `err`, whole where that
-- counts no fault
pub record EndsPairRead (aim : Goal) (method : Method) (model answers : List ℕ) (before now : FilesState) (extra : ℕ) (out out_now err err_now : SinkState) (outcome : Outcome) (kept : List KeptAnswer) (outputs : Option Naming) : Type 0 where
  pub pair : Pair
  pub read : ReadsPair aim model answers before now pair
  pub kept_all : kept ≡ pair.kept
  pub named : NamesOutputs pair outcome outputs
  pub comes : ComesTo method pair extra out out_now outcome
  pub quiet : IsYesOrNo outcome → (out_now.faults ≡ out.faults) × (err_now.faults ≡ err.faults)
  pub written : IsYesOrNo outcome → TakesAll
      (text_of pair.inputs pair.outputs pair.kept extra outcome) out.taken out_now.taken ×
      (err_now.taken ≡ err.taken)
  pub unwritten : ¬ IsYesOrNo outcome → outcome ≢ SinkFault → out_now.taken ≡ out.taken
  pub said : ¬ IsYesOrNo outcome → ¬ CountedFault err.faults err_now.faults →
      TakesAll (text_of pair.inputs pair.outputs pair.kept extra outcome) err.taken err_now.taken
  pub said_part : ¬ IsYesOrNo outcome → TakesSome
      (text_of pair.inputs pair.outputs pair.kept extra outcome) err.taken err_now.taken

-- where files are observed, the outcome is their decision, or a fault or memory came between
abbrev pub DecidesAs : Outcome → Outcome → Type 0
DecidesAs decision outcome = (outcome ≡ decision) ⊎ ((outcome ≡ NoMemory) ⊎ ((outcome ≡ SinkFault) ⊎ ((role : Role) × (outcome ≡ FileFault role))))
