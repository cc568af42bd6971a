-- Which outcomes of `serve` may come when.
use Rattle.std.specs.Prelude.{◌≡◌, Result, Ok, Err}
use Rattle.lw_line.specs.declared.serving.Served.{Served as Done}
use Rattle.lw_line.specs.declared.serving.ServeFault.{ServeFault}
use Rattle.lw_line.specs.declared.serving.ServeFault.TheVariants as fault
use Rattle.lw_report.specs.declared.outcome.Outcome.{Outcome}
use Rattle.lw_report.specs.declared.outcome.Outcome.TheVariants.{Served, BadFile, FileTooLong, NoMemory, BadAsk, FileFault, SourceFault, SinkFault}
use Rattle.lw_report.specs.declared.role.Role.TheVariants.{Model}

-- the outcome of serving a machine
abbrev pub served_outcome : Result Done ServeFault → Outcome
served_outcome (Ok served) = Served served
served_outcome (Err fault.SourceFault) = SourceFault
served_outcome (Err fault.SinkFault) = SinkFault
served_outcome (Err (fault.BadLine number)) = BadAsk number

-- the model file was not read as a machine
abbrev pub IsUnread : Outcome → Type 0
IsUnread (BadFile role fault) = role ≡ Model
IsUnread (FileTooLong role) = role ≡ Model
IsUnread NoMemory = Unit {0}
IsUnread (FileFault role) = role ≡ Model
IsUnread _ = ⊥

-- its bytes were not given, or there was no memory
abbrev pub IsUngiven : Outcome → Type 0
IsUngiven (FileTooLong role) = role ≡ Model
IsUngiven NoMemory = Unit {0}
IsUngiven (FileFault role) = role ≡ Model
IsUngiven _ = ⊥

-- a machine was played, and nothing outside failed
abbrev pub IsUntroubled : Outcome → Type 0
IsUntroubled (Served served) = Unit {0}
IsUntroubled (BadAsk number) = Unit {0}
IsUntroubled NoMemory = Unit {0}
IsUntroubled _ = ⊥
