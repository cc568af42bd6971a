-- What comes of asking a child again, and what its link says of that.
use Rattle.std.specs.Prelude.{◌≡◌, ℕ, List, [], ◌∷◌, Option, None, Result, Err, IfSome, OnOk}
use Rattle.lw_words.specs.declared.kept.KeptAnswer.{KeptAnswer}
use Rattle.lw_words.specs.declared.stop.RunStop.{RunStop}
use Rattle.lw_words.specs.declared.stop.RunStop.TheVariants.{Sul}
use Rattle.lw_words.specs.declared.stop.SulStop.{SulStop}
use Rattle.lw_cache.specs.declared.stops.Clash.{Clash}
use Rattle.lw_outside.specs.Links.{LinkState, SpawnerState}
use Rattle.lw_sul.specs.declared.runs.Run.{Run}
use Rattle.lw_system.specs.Told.{IfTold, IsStopped, SpellsRuns, SpellsWhole}
use Rattle.lw_system.specs.Spawners.{StartsAndRetires}
use Rattle.lw_recheck.specs.Again.{HasRechecked}

-- a child was started, asked the words of answers again, and retired; the runs are those that went over its link
pub record RechecksChild (command letters : List (List ℕ)) (declared : Option (List (List ℕ))) (outputs : List (List ℕ)) (answers : List KeptAnswer) (before now : SpawnerState) (shown : List (List ℕ)) (kept : List KeptAnswer) (came : Result (Option Clash) RunStop) : Type 0 where
  pub link : LinkState
  pub spawner : StartsAndRetires command before now (link ∷ [])
  pub quiet : now.faults ≡ before.faults
  pub names : List (List ℕ)
  pub declared_are : IfSome declared (λ ns. names ≡ ns)
  pub runs : List Run
  pub has : HasRechecked None outputs answers names runs shown kept came
  pub spells : IfTold (SpellsRuns letters declared names runs link) link.transcript
  -- where all words were asked, or all up to one that came out otherwise, nothing is left out
  pub whole : OnOk came (IfTold (SpellsWhole letters names runs) link.transcript)
  -- where it stopped, its link says why
  pub cause : (why : SulStop) → came ≡ Err (Sul why) → IsStopped declared why link
