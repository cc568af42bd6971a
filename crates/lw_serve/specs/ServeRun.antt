-- What a call of `serve` did, for callers: all that its contract says, in one record.
use Rattle.std.specs.Prelude.{◌≡◌, ◌⊎◌, ℕ, List, [], None}
use Rattle.lw_words.specs.Cause.{CountedFault}
use Rattle.lw_json.specs.Formats.{IsMachineFile}
use Rattle.lw_json.specs.MachineFault.{IsMachineFault}
use Rattle.lw_json.specs.declared.fault.JsonFault.{JsonFault}
use Rattle.lw_json.specs.declared.files.Machine.{Machine}
use Rattle.lw_outside.specs.Files.{HoldsLong, FilesState, ReadsFile, WasRead}
use Rattle.lw_report.specs.Ends.{IsWithoutLearner}
use Rattle.lw_system.specs.Reading.{ReadsBadFile}
use Rattle.lw_outside.specs.Streams.{SinkState, SourceState}
use Rattle.lw_report.specs.Writing.{TakesAll, TakesSome, said_text}
use Rattle.lw_report.specs.declared.«end».End.{End}
use Rattle.lw_report.specs.declared.outcome.Outcome.{Outcome}
use Rattle.lw_report.specs.declared.outcome.Outcome.TheVariants.{BadFile, FileFault, FileTooLong}
use Rattle.lw_report.specs.declared.role.Role.{Role}
use Rattle.lw_report.specs.declared.role.Role.TheVariants.{Model}
use Rattle.lw_serve.specs.Calls.{MadeCalls}
use Rattle.lw_serve.specs.Outcomes.{IsUngiven, IsUnread, IsUntroubled}
use Rattle.lw_serve.specs.Playing.{IsPlayed}
use Rattle.lw_serve.specs.Reading.{TellsFailed, TellsLong, TellsMachine, TellsNoMachine}

-- no machine was read: the input and `out` are as they were
pub record EndsUnread (input_before input_now : SourceState) (out_before out_now : SinkState) (outcome : Outcome) : Type 0 where
  pub kind : IsUnread outcome
  pub unasked : input_now ≡ input_before
  pub unwritten : out_now ≡ out_before

-- a machine was read, without a fault of the files, and played
pub record EndsPlayed (model : List ℕ) (files_before files_now : FilesState) (input_before input_now : SourceState) (out_before out_now : SinkState) (outcome : Outcome) : Type 0 where
  pub machine : Machine
  pub read : ReadsFile IsMachineFile model files_before.holds files_before.reads files_now.reads machine
  pub quiet : files_now.faults ≡ files_before.faults
  pub played : IsPlayed machine input_before input_now out_before out_now outcome

-- a call with this model file changed files, the input, `out` and `err` so, and came to the end
pub record IsServeRun (model : List ℕ) (files_before files_now : FilesState) (input_before input_now : SourceState) (out_before out_now : SinkState) (err_before err_now : SinkState) (end : End) : Type 0 where
  pub no_model : end.model ≡ None
  pub no_learner : IsWithoutLearner end
  pub nothing_kept : end.kept.answers ≡ []
  pub no_outputs : end.outputs ≡ None
  pub untouched : files_now.holds ≡ files_before.holds
  pub ended : EndsUnread input_before input_now out_before out_now end.outcome ⊎ EndsPlayed model files_before files_now input_before input_now out_before out_now end.outcome
  -- the text goes to `err`, whole where that counts no fault
  pub said : ¬ CountedFault err_before.faults err_now.faults →
      TakesAll (said_text None None [] 0 end.outcome) err_before.taken err_now.taken
  pub said_part : TakesSome (said_text None None [] 0 end.outcome) err_before.taken err_now.taken
  -- what each refusal of the file comes from
  pub bad_file : (role : Role) (fault : JsonFault) → end.outcome ≡ BadFile role fault →
      (role ≡ Model) × ReadsBadFile IsMachineFile IsMachineFault model files_before.holds files_before.reads files_now.reads
      fault
  pub bad_file_told : TellsNoMachine files_before.holds model → IsUnread end.outcome
  pub too_long : (role : Role) → end.outcome ≡ FileTooLong role → (role ≡ Model) ×
      HoldsLong files_before.holds model × (files_now.reads ≡ files_before.reads)
  pub too_long_told : TellsLong files_before.holds model → IsUngiven end.outcome
  pub file_fault : (role : Role) → end.outcome ≡ FileFault role → (role ≡ Model) ×
      CountedFault files_before.faults files_now.faults × (files_now.reads ≡ files_before.reads)
  pub file_fault_told : TellsFailed model files_before.calls files_now.calls → end.outcome ≡ FileFault Model
  -- where a machine's file is observed and nothing outside counted a fault, the machine is played to the end or to a
  -- bad line, or memory runs out
  pub untroubled :
      TellsMachine files_before.holds model
      → ¬ CountedFault files_before.faults files_now.faults
      → ¬ CountedFault input_before.faults input_now.faults
      → ¬ CountedFault out_before.faults out_now.faults
      → IsUntroubled end.outcome
  pub reads : (files_now.reads ≡ files_before.reads) ⊎ ((bytes : List ℕ) × WasRead files_before.holds files_before.reads files_now.reads model bytes)
  pub calls : MadeCalls model end.outcome files_before.calls files_now.calls
