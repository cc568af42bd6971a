-- Which run was cut off.
use Rattle.std.specs.Prelude.{◌≡◌, ℕ, Result, Err}
use Rattle.lw_words.specs.declared.stop.SulStop.{SulStop}
use Rattle.lw_cache.specs.declared.stops.AskStop.TheVariants as ask
use Rattle.lw_rounds.specs.declared.learned.Learned.{Learned}
use Rattle.lw_rounds.specs.declared.stops.LearnStop.{LearnStop}
use Rattle.lw_rounds.specs.declared.stops.LearnStop.TheVariants as learn

-- the learning ended because the system of this instance stopped
abbrev pub IsStopOfInstance : ℕ → Result Learned LearnStop → Type 0
IsStopOfInstance i learned = (stop : SulStop) × (learned ≡ Err (learn.Ask (ask.Sul i stop)))
