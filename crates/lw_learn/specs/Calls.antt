-- The writes of a model by `learn`: the model file is written, then the answers file, up to the write that ends the run. A fault
-- of the recorded answers' file is reported once these are written.
use Rattle.std.specs.Prelude.{◌≡◌, ℕ, List, [], ◌∷◌, ◌++◌, take, Bool, true, false, Option, Some, None}
use Rattle.lw_learn.specs.Arguments.{LearnValues}
use Rattle.lw_outside.specs.Files.{Call, write_call}
use Rattle.lw_system.specs.Reads.{gained}
use Rattle.lw_report.specs.declared.outcome.Outcome.{Outcome}
use Rattle.lw_report.specs.declared.outcome.Outcome.TheVariants.{Accepted, Learned, NoMemory, FileFault, SinkFault}
use Rattle.lw_report.specs.declared.role.Role.{Role}
use Rattle.lw_report.specs.declared.role.Role.TheVariants.{Setup, Table, Model, Answers, Prior, Second, Words, Kept, Last}

-- the write of a file, where one is named
abbrev pub write_of : Option (List ℕ) → Bool → List Call
write_of None failed = []
write_of (Some name) failed = write_call name failed ∷ []

-- the writes where none fails
abbrev pub all_writes : LearnValues → List Call
all_writes a = write_of a.model false ++ write_of a.answers false

-- the writes up to the one of the file in this role, which failed, or behind which its fault is reported
abbrev pub writes_to : LearnValues → Role → List Call
writes_to a Setup = []
writes_to a Table = []
writes_to a Model = write_of a.model true
writes_to a Answers = write_of a.model false ++ write_of a.answers true
writes_to a Prior = []
writes_to a Second = []
writes_to a Words = []
writes_to a Kept = all_writes a
writes_to a Last = []

-- the writes of a call of `learn` that ended with the outcome
abbrev pub MadeWrites : LearnValues → Outcome → Option (List Call) → Option (List Call) → Type 0
MadeWrites a (Learned model refinements) before now = now ≡ gained (all_writes a) before
MadeWrites a (Accepted states refinements) before now = now ≡ gained (all_writes a) before
MadeWrites a SinkFault before now = now ≡ gained (all_writes a) before
MadeWrites a (FileFault role) before now = now ≡ gained (writes_to a role) before
MadeWrites a NoMemory before now = (n : ℕ) × (now ≡ gained (take n (all_writes a)) before)
MadeWrites a _ before now = now ≡ before
