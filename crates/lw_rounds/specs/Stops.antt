-- Why a learning stopped, and which stop of its oracle that is.
use Rattle.std.specs.Prelude.{◌≡◌, Option, Some, None, Result, Ok, Err}
use Rattle.lw_cache.specs.declared.stops.AskStop.{AskStop}
use Rattle.lw_cache.specs.declared.stops.AskStop.TheVariants as ask
use Rattle.lw_cache.specs.declared.stops.GrowStop.{GrowStop}
use Rattle.lw_cache.specs.declared.stops.GrowStop.TheVariants as grow
use Rattle.lw_rounds.specs.declared.stops.LearnStop.{LearnStop}
use Rattle.lw_rounds.specs.declared.stops.LearnStop.TheVariants as learn

-- why a learner stopped is why the learning does
abbrev pub of_growth : GrowStop → LearnStop
of_growth (grow.Ask stop) = learn.Ask stop
of_growth (grow.Crowd words) = learn.Crowd words

-- the stop of the oracle that a learning answers, or None where it answers anything else
abbrev pub learn_stop : {X : Type 0} → Result X LearnStop → Option AskStop
learn_stop (Ok x) = None
learn_stop (Err (learn.Ask stop)) = Some stop
learn_stop (Err (learn.Crowd words)) = None
learn_stop (Err (learn.TooLarge model number)) = None

-- neither a system stopped nor did answers clash
abbrev pub IsOwnStop : LearnStop → Type 0
IsOwnStop (learn.Ask stop) = stop ≡ ask.NoMemory
IsOwnStop (learn.Crowd words) = Unit {0}
IsOwnStop (learn.TooLarge model number) = Unit {0}
