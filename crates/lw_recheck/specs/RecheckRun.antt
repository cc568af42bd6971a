-- What a call of `recheck` did.
use Rattle.std.specs.Prelude.{◌≡◌, ◌⊎◌, ℕ, List, [], length, Option, Some, None, Result, Err}
use Rattle.lw_words.specs.declared.kept.KeptAnswer.{KeptAnswer}
use Rattle.lw_words.specs.declared.stop.RunStop.{RunStop}
use Rattle.lw_words.specs.declared.stop.RunStop.TheVariants.{Sul}
use Rattle.lw_words.specs.declared.stop.SulStop.{SulStop}
use Rattle.lw_cache.specs.declared.stops.Clash.{Clash}
use Rattle.lw_json.specs.declared.files.Answers.{Answers}
use Rattle.lw_json.specs.declared.files.Machine.{Machine}
use Rattle.lw_outside.specs.declared.links.StartFailure.{StartFailure}
use Rattle.lw_outside.specs.declared.links.StartStop.{StartStop}
use Rattle.lw_sul.specs.declared.runs.Run.{Run}
use Rattle.lw_outside.specs.Links.{SpawnerState}
use Rattle.lw_outside.specs.Files.{FilesState}
use Rattle.lw_outside.specs.Streams.{SinkState}
use Rattle.lw_json.specs.declared.setup.Command.{Command}
use Rattle.lw_report.specs.declared.«end».End.{End}
use Rattle.lw_report.specs.declared.outcome.Outcome.{Outcome}
use Rattle.lw_system.specs.Reads.{MadeReads}
use Rattle.lw_system.specs.declared.system.System.{System}
use Rattle.lw_system.specs.declared.system.System.TheVariants.{Table, Children}
use Rattle.lw_system.specs.Spawners.{HasNotStarted}
use Rattle.lw_report.specs.Stops.{start_outcome}
use Rattle.lw_recheck.specs.Again.{HasRechecked}
use Rattle.lw_recheck.specs.Arguments.{RecheckValues}
use Rattle.lw_recheck.specs.Child.{RechecksChild}
use Rattle.lw_recheck.specs.Ending.{IsBare, IsEnd, IsTold}
use Rattle.lw_recheck.specs.Outcomes.{came_outcome}
use Rattle.lw_recheck.specs.Reading.{IsUnread, ReadsBoth}

-- a machine was asked, which doesn't stop
pub record RechecksMachine (m : Machine) (outputs : List (List ℕ)) (answers : List KeptAnswer) (shown : Option (List (List ℕ))) (kept : List KeptAnswer) (why : Outcome) : Type 0 where
  pub came : Result (Option Clash) RunStop
  pub outcome : why ≡ came_outcome (length answers) came
  pub runs : List Run
  pub names : List (List ℕ)
  pub shown_are : shown ≡ Some names
  pub has : HasRechecked (Some m.mealy.rows) outputs answers m.outputs runs names kept came
  pub sound : (stop : SulStop) → ¬ (came ≡ Err (Sul stop))

-- a child was asked
pub record RechecksStarted (c : Command) (outputs : List (List ℕ)) (answers : List KeptAnswer) (spawner_before spawner_now : SpawnerState) (shown : Option (List (List ℕ))) (kept : List KeptAnswer) (why : Outcome) : Type 0 where
  pub came : Result (Option Clash) RunStop
  pub outcome : why ≡ came_outcome (length answers) came
  pub names : List (List ℕ)
  pub shown_are : shown ≡ Some names
  pub asks : RechecksChild c.words c.inputs c.outputs outputs answers spawner_before spawner_now names kept came

-- no child was asked, for this cause, or because memory ran out
pub record RechecksNone (c : Command) (spawner_before spawner_now : SpawnerState) (shown : Option (List (List ℕ))) (kept : List KeptAnswer) (why : Outcome) : Type 0 where
  pub stop : StartStop
  pub cause : StartFailure
  pub outcome : why ≡ start_outcome cause stop
  pub spawner : HasNotStarted c.words spawner_before spawner_now stop
  pub unnamed : shown ≡ None
  pub nothing : kept ≡ []

abbrev pub RechecksCommand : Command → (outputs : List (List ℕ)) → (answers : List KeptAnswer) → (spawner_before spawner_now : SpawnerState) → Option (List (List ℕ)) → List KeptAnswer → Outcome → Type 0
RechecksCommand c outputs answers spawner_before spawner_now shown kept why = RechecksStarted c outputs answers spawner_before spawner_now shown kept why ⊎ RechecksNone c spawner_before spawner_now shown kept why

-- a system was asked the words of answers again; these answers are kept, by the names that
-- are shown
abbrev pub RechecksSystem : System → (outputs : List (List ℕ)) → (answers : List KeptAnswer) → (spawner_before spawner_now : SpawnerState) → Option (List (List ℕ)) → List KeptAnswer → Outcome → Type 0
RechecksSystem (Table m) outputs answers spawner_before spawner_now shown kept why = (spawner_now ≡ spawner_before) × RechecksMachine m outputs answers shown kept why
RechecksSystem (Children c) outputs answers spawner_before spawner_now shown kept why = RechecksCommand c outputs answers spawner_before spawner_now shown kept why

-- a system was asked the words of answers again, and the call ended so
pub record AsksTask (system : System) (answers : Answers) (spawner_before spawner_now : SpawnerState) (out_before out_now err_before err_now : SinkState) (end : End) : Type 0 where
  pub shown : Option (List (List ℕ))
  pub kept : List KeptAnswer
  pub why : Outcome
  pub asks : RechecksSystem system answers.outputs answers.kept.answers spawner_before spawner_now shown kept why
  pub ended : IsEnd (Some answers.inputs) shown why kept out_before out_now err_before err_now end

-- the files say a system and answers over its names, by reads of which none failed, and the system was asked
pub record HasAskedSystem (a : RecheckValues) (files_before files_now : FilesState) (spawner_before spawner_now : SpawnerState) (out_before out_now err_before err_now : SinkState) (end : End) : Type 0 where
  pub system : System
  pub answers : Answers
  pub reads : ReadsBoth a.setup a.answers files_before.holds files_before.reads files_now.reads system answers
  pub made : MadeReads files_before files_now []
  pub quiet : files_now.faults ≡ files_before.faults
  pub asks : AsksTask system answers spawner_before spawner_now out_before out_now err_before err_now end

-- the files say none: nothing is asked
pub record HasNone (a : RecheckValues) (files_before files_now : FilesState) (spawner_before spawner_now : SpawnerState) (out_before out_now err_before err_now : SinkState) (end : End) : Type 0 where
  pub why : Outcome
  pub cause : IsUnread a.setup a.answers files_before files_now why
  pub unstarted : spawner_now ≡ spawner_before
  pub bare : IsBare [] end
  pub told : IsTold None None why [] out_before out_now err_before err_now end

-- a call with these arguments changed files, a spawner, `out` and `err` so, and came to the end
pub record IsRecheckRun (a : RecheckValues) (files_before files_now : FilesState) (spawner_before spawner_now : SpawnerState) (out_before out_now err_before err_now : SinkState) (end : End) : Type 0 where
  pub came : HasAskedSystem a files_before files_now spawner_before spawner_now out_before out_now err_before err_now end ⊎ HasNone a files_before files_now spawner_before spawner_now out_before out_now err_before err_now end
  pub holds : files_now.holds ≡ files_before.holds
