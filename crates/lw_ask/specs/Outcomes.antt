-- The outcomes of asking.
use Rattle.std.specs.Prelude.{Result, Ok, Err}
use Rattle.lw_report.specs.Learnings.{system_outcome}
use Rattle.lw_report.specs.declared.outcome.Outcome.{Outcome}
use Rattle.lw_report.specs.declared.outcome.Outcome.TheVariants as outcome
use Rattle.lw_ask.specs.declared.stop.AskingStop.{AskingStop}
use Rattle.lw_ask.specs.declared.stop.AskingStop.TheVariants.{Sul, Sink, NoMemory}
use Rattle.lw_wordlist.specs.declared.words.WordStop.{WordStop}
use Rattle.lw_wordlist.specs.declared.words.WordStop.TheVariants as word

-- the outcome of asking that stopped so: of a child it is the one of instance 0
abbrev pub stop_outcome : AskingStop → Outcome
stop_outcome (Sul stop) = system_outcome 0 stop
stop_outcome Sink = outcome.SinkFault
stop_outcome NoMemory = outcome.NoMemory

-- the outcome of asking
abbrev pub came_outcome : Result (Unit {0}) AskingStop → Outcome
came_outcome (Ok done) = outcome.Asked
came_outcome (Err stop) = stop_outcome stop

-- the outcome of texts that are no words
abbrev pub word_outcome : WordStop → Outcome
word_outcome (word.Unknown number place) = outcome.UnknownLetter number place
word_outcome word.NoMemory = outcome.NoMemory
