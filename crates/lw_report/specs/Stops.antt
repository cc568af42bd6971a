-- The outcomes of a file that was not read, of a start that gave no child, and of an outcome that was not reported.
use Rattle.lw_accept.specs.declared.fault.AcceptorFault.{AcceptorFault}
use Rattle.lw_outside.specs.declared.links.StartFailure.{StartFailure}
use Rattle.lw_outside.specs.declared.links.StartStop.{StartStop}
use Rattle.lw_outside.specs.declared.links.StartStop.TheVariants as start
use Rattle.lw_system.specs.declared.source.Source.{Source}
use Rattle.lw_system.specs.declared.source.Source.TheVariants as source
use Rattle.lw_json.specs.declared.fault.JsonFault.{JsonFault}
use Rattle.lw_system.specs.declared.stops.AcceptorStop.{AcceptorStop}
use Rattle.lw_system.specs.declared.stops.AcceptorStop.TheVariants as acceptor
use Rattle.lw_system.specs.declared.stops.NoSystem.{NoSystem}
use Rattle.lw_system.specs.declared.stops.NoSystem.TheVariants as none
use Rattle.lw_system.specs.declared.stops.ReadStop.{ReadStop}
use Rattle.lw_system.specs.declared.stops.ReadStop.TheVariants.{Failed, TooLong, Bad, NoMemory as NoMemoryToRead}
use Rattle.lw_system.specs.declared.stops.SystemStop.{SystemStop}
use Rattle.lw_report.specs.declared.role.Role.{Role}
use Rattle.lw_report.specs.declared.role.Role.TheVariants as role
use Rattle.lw_report.specs.declared.stops.TellStop.{TellStop}
use Rattle.lw_report.specs.declared.stops.TellStop.TheVariants.{File, Sink, NoMemory as NoMemoryToTell}
use Rattle.lw_report.specs.declared.outcome.Outcome.{Outcome}
use Rattle.lw_report.specs.declared.outcome.Outcome.TheVariants.{BadFile, FileTooLong, NoMemory, FileFault, SinkFault, Unstarted, BadAcceptor}

-- the outcome of a file in this role that was not read
abbrev pub read_outcome : Role → ReadStop JsonFault → Outcome
read_outcome role Failed = FileFault role
read_outcome role TooLong = FileTooLong role
read_outcome role (Bad fault) = BadFile role fault
read_outcome role NoMemoryToRead = NoMemory

-- the role of a file that says a system
abbrev pub role_of : Source → Role
role_of source.Setup = role.Setup
role_of source.Table = role.Table

-- the outcome of files that say no system
abbrev pub unread_outcome : SystemStop → Outcome
unread_outcome stop = read_outcome (role_of stop.file) stop.stop

-- the outcome of an acceptor file in this role that was not read
abbrev pub acceptor_outcome : Role → ReadStop AcceptorFault → Outcome
acceptor_outcome role Failed = FileFault role
acceptor_outcome role TooLong = FileTooLong role
acceptor_outcome role (Bad fault) = BadAcceptor fault
acceptor_outcome role NoMemoryToRead = NoMemory

-- the outcome of files that say no system that is asked for an acceptor
abbrev pub no_acceptor_outcome : AcceptorStop → Outcome
no_acceptor_outcome (acceptor.Setup stop) = read_outcome role.Setup stop
no_acceptor_outcome (acceptor.Table stop) = acceptor_outcome role.Table stop
no_acceptor_outcome (acceptor.Letters fault) = BadAcceptor fault
no_acceptor_outcome acceptor.NoMemory = NoMemory

-- the outcome of files that say no system, by what is to be learned of it
abbrev pub no_system_outcome : NoSystem → Outcome
no_system_outcome (none.Machine stop) = unread_outcome stop
no_system_outcome (none.Acceptor stop) = no_acceptor_outcome stop

-- the outcome of a start that gave no child
abbrev pub start_outcome : StartFailure → StartStop → Outcome
start_outcome cause start.Failed = Unstarted cause
start_outcome cause start.NoMemory = NoMemory

-- the outcome in place of one that was not reported
abbrev pub tell_outcome : TellStop → Outcome
tell_outcome (File role) = FileFault role
tell_outcome Sink = SinkFault
tell_outcome NoMemoryToTell = NoMemory
