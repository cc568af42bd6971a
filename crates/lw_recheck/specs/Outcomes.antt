-- The outcomes of asking again.
use Rattle.std.specs.Prelude.{ℕ, Option, Some, None, Result, Ok, Err}
use Rattle.lw_words.specs.declared.stop.RunStop.{RunStop}
use Rattle.lw_words.specs.declared.stop.RunStop.TheVariants.{Sul, NoMemory}
use Rattle.lw_cache.specs.declared.stops.Clash.{Clash}
use Rattle.lw_report.specs.Learnings.{system_outcome}
use Rattle.lw_report.specs.declared.outcome.Outcome.{Outcome}
use Rattle.lw_report.specs.declared.outcome.Outcome.TheVariants as outcome

-- of this many answers: a child that stops is the one of instance 0
abbrev pub came_outcome : ℕ → Result (Option Clash) RunStop → Outcome
came_outcome answers (Ok None) = outcome.Rechecked answers
came_outcome answers (Ok (Some clash)) = outcome.Nondeterministic clash
came_outcome answers (Err (Sul stop)) = system_outcome 0 stop
came_outcome answers (Err NoMemory) = outcome.NoMemory
