-- The calls of `serve` on the files: the model file is read, and nothing else.
use Rattle.std.specs.Prelude.{◌≡◌, ◌⊎◌, ℕ, List, true, false, Option}
use Rattle.lw_outside.specs.Files.{Call, noted, read_call}
use Rattle.lw_report.specs.declared.outcome.Outcome.{Outcome}
use Rattle.lw_report.specs.declared.outcome.Outcome.TheVariants.{FileFault, NoMemory}

-- the read fails where the outcome is a fault of the file
abbrev pub read_of : List ℕ → Outcome → Call
read_of model (FileFault role) = read_call model true
read_of model _ = read_call model false

-- the calls of a call of `serve` that ended with the outcome: the read, or none where memory ran out first
abbrev pub MadeCalls : List ℕ → Outcome → Option (List Call) → Option (List Call) → Type 0
MadeCalls model outcome before now = ((outcome ≡ NoMemory) × (now ≡ before)) ⊎ (now ≡ noted (read_of model outcome) before)
