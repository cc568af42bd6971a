-- Why no more words were asked.
use Rattle.lw_words.specs.declared.stop.RunStop.{RunStop}
use Rattle.lw_words.specs.declared.stop.RunStop.TheVariants as run
use Rattle.lw_ask.specs.declared.stop.AskingStop.{AskingStop}
use Rattle.lw_ask.specs.declared.stop.AskingStop.TheVariants.{Sul, NoMemory}

-- a run that was not finished
abbrev pub run_stop : RunStop → AskingStop
run_stop (run.Sul stop) = Sul stop
run_stop run.NoMemory = NoMemory
