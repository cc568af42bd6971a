-- Why a file was not read.
use Rattle.lw_accept.specs.declared.fault.AcceptorFault.{AcceptorFault}
use Rattle.lw_accept.specs.declared.fault.AcceptorFault.TheVariants.{NoMemory as NoMemoryToAccept}
use Rattle.lw_json.specs.declared.fault.JsonFault.{JsonFault}
use Rattle.lw_json.specs.declared.fault.JsonFault.TheVariants.{NoMemory as NoMemoryToParse}
use Rattle.lw_outside.specs.declared.files.FilesStop.{FilesStop}
use Rattle.lw_outside.specs.declared.files.FilesStop.TheVariants as files
use Rattle.lw_system.specs.declared.stops.ReadStop.{ReadStop}
use Rattle.lw_system.specs.declared.stops.ReadStop.TheVariants.{Failed, TooLong, Bad, NoMemory as NoMemoryToRead}

abbrev pub unread : {F : Type 0} → FilesStop → ReadStop F
unread files.Failed = Failed
unread files.TooLong = TooLong
unread files.NoMemory = NoMemoryToRead

-- out of memory is no fault of a file
abbrev pub read_stop : JsonFault → ReadStop JsonFault
read_stop NoMemoryToParse = NoMemoryToRead
read_stop fault = Bad fault

abbrev pub acceptor_stop : AcceptorFault → ReadStop AcceptorFault
acceptor_stop NoMemoryToAccept = NoMemoryToRead
acceptor_stop fault = Bad fault
