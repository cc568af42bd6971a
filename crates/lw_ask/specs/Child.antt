-- What comes of asking a child, and what its link says of that.
use Rattle.std.specs.Prelude.{◌≡◌, List, ℕ, [], ◌∷◌, Option, None, Result, Err, IfSome, OnOk}
use Rattle.lw_words.specs.declared.kept.KeptAnswer.{KeptAnswer}
use Rattle.lw_words.specs.declared.stop.SulStop.{SulStop}
use Rattle.lw_outside.specs.Links.{LinkState, SpawnerState}
use Rattle.lw_outside.specs.Streams.{SinkState}
use Rattle.lw_sul.specs.declared.runs.Run.{Run}
use Rattle.lw_system.specs.Spawners.{StartsAndRetires}
use Rattle.lw_system.specs.Told.{IfTold, IsStopped, SpellsRuns, SpellsWhole}
use Rattle.lw_ask.specs.Asking.{HasPut}
use Rattle.lw_ask.specs.declared.stop.AskingStop.{AskingStop}
use Rattle.lw_ask.specs.declared.stop.AskingStop.TheVariants.{Sul}

-- a child was started, asked the words, and retired; the answers are the runs that went over its link
pub record AsksChild (command letters : List (List ℕ)) (outputs : Option (List (List ℕ))) (words : List (List ℕ)) (before now : SpawnerState) (out_before out_now : SinkState) (kept : List KeptAnswer) (came : Result (Unit {0}) AskingStop) : Type 0 where
  pub link : LinkState
  pub spawner : StartsAndRetires command before now (link ∷ [])
  pub quiet : now.faults ≡ before.faults
  pub names : List (List ℕ)
  pub declared : IfSome outputs (λ ns. names ≡ ns)
  pub runs : List Run
  pub put : HasPut None letters words names runs kept out_before out_now came
  pub spells : IfTold (SpellsRuns letters outputs names runs link) link.transcript
  -- where all words were answered nothing is left out
  pub whole : OnOk came (IfTold (SpellsWhole letters names runs) link.transcript)
  -- where the child stopped, its link says why
  pub cause : (why : SulStop) → came ≡ Err (Sul why) → IsStopped outputs why link
