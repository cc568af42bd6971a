-- Why a model's file was not read, before its text was put.
use Rattle.std.specs.Prelude.{◌≡◌, ◌⊎◌, ℕ, List, true, false, Option}
use Rattle.lw_words.specs.Cause.{CountedFault}
use Rattle.lw_json.specs.MachineFault.{IsMachineFault}
use Rattle.lw_json.specs.Formats.{IsMachineFile}
use Rattle.lw_json.specs.declared.fault.JsonFault.{JsonFault}
use Rattle.lw_outside.specs.Files.{Call, File, HoldsLong, noted, read_call, FilesState, ReadsFile}
use Rattle.lw_system.specs.Reading.{ReadsBadFile}
use Rattle.lw_system.specs.declared.stops.ReadStop.{ReadStop}
use Rattle.lw_system.specs.declared.stops.ReadStop.TheVariants as stop
use Rattle.lw_report.specs.Stops.{read_outcome}
use Rattle.lw_report.specs.declared.outcome.Outcome.{Outcome}
use Rattle.lw_report.specs.declared.role.Role.TheVariants.{Model, Second}
use Rattle.lw_json.specs.declared.files.Machine.{Machine}
use Rattle.lw_compare.specs.Reading.{first_read}

-- what a stop of the read of a model says of the files before and after it
pub record HasStopped (name : List ℕ) (files_before files_now : FilesState) (s : ReadStop JsonFault) : Type 0 where
  pub bad : (fault : JsonFault) → s ≡ stop.Bad fault → ReadsBadFile IsMachineFile IsMachineFault name files_before.holds files_before.reads files_now.reads fault × (files_now.calls ≡ noted (read_call name false) files_before.calls)
  pub long : s ≡ stop.TooLong → HoldsLong files_before.holds name × (files_now.calls ≡ noted (read_call name false) files_before.calls) × (files_now.reads ≡ files_before.reads)
  pub failed : s ≡ stop.Failed → CountedFault files_before.faults files_now.faults × (files_now.calls ≡ noted (read_call name true) files_before.calls) × (files_now.reads ≡ files_before.reads)
  pub memory : s ≡ stop.NoMemory → (files_now.calls ≡ files_before.calls) ⊎ (files_now.calls ≡ noted (read_call name false) files_before.calls)

-- files once the first model was read, after which these reads are observed
abbrev pub with_first : List ℕ → List File → FilesState → FilesState
with_first one reads files_before = record { holds = files_before.holds; calls = first_read one false files_before; reads = reads; faults = files_before.faults }

-- the first file was not read; or it was, and the second was not; and the outcome is that of the stop
abbrev pub IsStopped : List ℕ → List ℕ → FilesState → FilesState → Outcome → Type 0
IsStopped one two files_before files_now outcome =
    ((s : ReadStop JsonFault) × HasStopped one files_before files_now s × (outcome ≡ read_outcome Model s))
    ⊎ ((s : ReadStop JsonFault) × (middle : List File) × (m : Machine) × ReadsFile IsMachineFile one files_before.holds files_before.reads middle m × HasStopped two (with_first one middle files_before) files_now s × (outcome ≡ read_outcome Second s))
