-- Which outcomes of `learn` may come when.
use Rattle.std.specs.Prelude.{◌≡◌, ◌⊎◌, ℕ, ◌<◌, length, Result, Ok, Err}
use Rattle.lw_mealy.specs.Machine.{MealyMachine, Rows}
use Rattle.lw_accept.specs.View.{IsFirstUnviewed}
use Rattle.lw_report.specs.Stops.{tell_outcome}
use Rattle.lw_report.specs.declared.stops.TellStop.{TellStop}
use Rattle.lw_report.specs.declared.outcome.Outcome.{Outcome}
use Rattle.lw_report.specs.declared.outcome.Outcome.TheVariants.{Accepted, BadLine, Learned, NoMemory, NotAcceptor, FileFault, SinkFault}
use Rattle.lw_report.specs.declared.role.Role.TheVariants.{Model, Answers, Kept}
use Rattle.lw_system.specs.declared.goal.Goal.{Goal}
use Rattle.lw_system.specs.declared.goal.Goal.TheVariants as aim

-- the outcome of writing a model out, which is this one where all was written
abbrev pub ReportIsTold : Outcome → Outcome → Type 0
ReportIsTold told (Learned model refinements) = told ≡ Learned model refinements
ReportIsTold told (Accepted states refinements) = told ≡ Accepted states refinements
ReportIsTold told NoMemory = Unit {0}
ReportIsTold told (FileFault role) = (role ≡ Model) ⊎ ((role ≡ Answers) ⊎ (role ≡ Kept))
ReportIsTold told SinkFault = Unit {0}
ReportIsTold told _ = ⊥

-- what is reported of a model where all is written, by what was to be learned
abbrev pub told_of : Goal → MealyMachine → ℕ → Outcome
told_of aim.Machine model refinements = Learned model refinements
told_of aim.Acceptor model refinements = Accepted (length model.rows) refinements

-- an acceptor was to be learned, and the model is none's: the first pair that says so is reported
abbrev pub IsNoAcceptor : Goal → Rows → Outcome → Type 0
IsNoAcceptor goal rows outcome = (goal ≡ aim.Acceptor) × ((state : ℕ) × (letter : ℕ) × (outcome ≡ NotAcceptor state letter) × IsFirstUnviewed rows state letter)

-- what is reported in place of a model: memory ran out, or it is no acceptor's
abbrev pub IsUntold : Goal → Rows → Outcome → Type 0
IsUntold goal rows outcome = (outcome ≡ NoMemory) ⊎ IsNoAcceptor goal rows outcome

-- the outcome of a model that was learned
abbrev pub ModelIsTold : Goal → MealyMachine → ℕ → Outcome → Type 0
ModelIsTold goal model refinements outcome = ReportIsTold (told_of goal model refinements) outcome ⊎ IsNoAcceptor goal model.rows outcome

-- what came of writing it out
abbrev pub told_outcome : {T : Type 0} → Outcome → Result T TellStop → Outcome
told_outcome told (Ok done) = told
told_outcome told (Err stop) = tell_outcome stop

-- the outcome of a call whose model file and answers file, if it names them, were written
abbrev pub HasFiles : Outcome → Type 0
HasFiles (Learned model refinements) = Unit {0}
HasFiles (Accepted states refinements) = Unit {0}
HasFiles SinkFault = Unit {0}
HasFiles (FileFault role) = role ≡ Kept
HasFiles _ = ⊥

-- the outcome of a call whose model file, if it names one, was written
abbrev pub HasModelFile : Outcome → Type 0
HasModelFile (Learned model refinements) = Unit {0}
HasModelFile (Accepted states refinements) = Unit {0}
HasModelFile SinkFault = Unit {0}
HasModelFile (FileFault role) = (role ≡ Answers) ⊎ (role ≡ Kept)
HasModelFile _ = ⊥

-- nothing was put to `out`
abbrev pub IsBeforeOut : Outcome → Type 0
IsBeforeOut NoMemory = Unit {0}
IsBeforeOut (NotAcceptor state letter) = Unit {0}
IsBeforeOut (FileFault role) = (role ≡ Model) ⊎ (role ≡ Answers)
IsBeforeOut _ = ⊥

-- the model was put to `out`, where it goes there
abbrev pub IsBehindOut : Outcome → Type 0
IsBehindOut (Learned model refinements) = Unit {0}
IsBehindOut (Accepted states refinements) = Unit {0}
IsBehindOut (FileFault role) = role ≡ Kept
IsBehindOut _ = ⊥

-- a model is reported, or an acceptor
abbrev pub IsLearnedOutcome : Outcome → Type 0
IsLearnedOutcome (Learned model refinements) = Unit {0}
IsLearnedOutcome (Accepted states refinements) = Unit {0}
IsLearnedOutcome _ = ⊥

-- one of this many instances said a bad line
abbrev pub IsBadLine : ℕ → Outcome → Type 0
IsBadLine workers (BadLine instance line) = instance < workers
IsBadLine workers _ = ⊥

-- a model is reported that came within fewer than n refinements, or memory ran out
abbrev pub IsReachedMachine : ℕ → Outcome → Type 0
IsReachedMachine n (Learned model refinements) = refinements < n
IsReachedMachine n NoMemory = Unit {0}
IsReachedMachine n _ = ⊥

-- an acceptor is, or that there is none
abbrev pub IsReachedAcceptor : ℕ → Outcome → Type 0
IsReachedAcceptor n (Accepted states refinements) = refinements < n
IsReachedAcceptor n (NotAcceptor state letter) = Unit {0}
IsReachedAcceptor n NoMemory = Unit {0}
IsReachedAcceptor n _ = ⊥

abbrev pub IsReachedOutcome : Goal → ℕ → Outcome → Type 0
IsReachedOutcome aim.Machine n outcome = IsReachedMachine n outcome
IsReachedOutcome aim.Acceptor n outcome = IsReachedAcceptor n outcome
