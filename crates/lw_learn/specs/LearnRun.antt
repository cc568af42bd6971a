-- What a call of `learn` did, for callers: all that its contract says, in one record.
use Rattle.std.specs.Prelude.{◌≡◌, ◌⊎◌, ℕ, ◌≤◌, List, Option, Some, None, codes}
use Rattle.lw_words.specs.Cause.{CountedFault}
use Rattle.lw_outside.specs.Links.{SpawnerState}
use Rattle.lw_outside.specs.Files.{FilesState}
use Rattle.lw_outside.specs.Streams.{SinkState}
use Rattle.lw_log.specs.declared.log.LogState.{LogState}
use Rattle.lw_log.specs.declared.log.LogState.TheVariants.{Open}
use Rattle.lw_report.specs.Writing.{TakesAll, TakesSome}
use Rattle.lw_report.specs.declared.«end».End.{End}
use Rattle.lw_report.specs.declared.outcome.Outcome.TheVariants.{NoMemory}
use Rattle.lw_learn.specs.Arguments.{LearnValues}
use Rattle.lw_learn.specs.Ending.{EndsRead, EndsUnread}

-- a line was put to `err`, but that this may have refused it
pub record PutsLine (line : List ℕ) (err_before err_now : SinkState) : Type 0 where
  pub said : ¬ CountedFault err_before.faults err_now.faults → TakesAll line err_before.taken err_now.taken
  pub part : TakesSome line err_before.taken err_now.taken
  pub counts : err_before.faults ≤ err_now.faults

-- that a log isn't whole is said once on `err`, behind all else: where one is named, and isn't open at the end; nothing is said
-- where none is named
abbrev pub SaysLog : Option (List ℕ) → LogState → (err_before err_now : SinkState) → Type 0
SaysLog None s err_before err_now = err_now ≡ err_before
SaysLog (Some name) Open err_before err_now = err_now ≡ err_before
SaysLog (Some name) _ err_before err_now = PutsLine (codes "log fault\n") err_before err_now

-- a call came to its end: it read what is to be learned, and learned it; or it did not
abbrev pub IsLearnEnd : LearnValues → (files_before files_now : FilesState) → (spawner_before spawner_now : SpawnerState) → (out_before out_now err_before err_now : SinkState) → End → Type 0
IsLearnEnd a files_before files_now spawner_before spawner_now out_before out_now err_before err_now end = EndsUnread a files_before files_now spawner_before spawner_now out_before out_now err_before err_now end ⊎ EndsRead a files_before files_now spawner_before spawner_now out_before out_now err_before err_now end

-- a call with these arguments changed files, a spawner, `out` and `err` so, left its log in this state, and came to the end; its
-- log changes nothing else
pub record IsLearnRun (a : LearnValues) (files_before files_now : FilesState) (spawner_before spawner_now : SpawnerState) (out_before out_now err_before err_now : SinkState) (log_now : LogState) (end : End) : Type 0 where
  pub told : SinkState
  pub ends : IsLearnEnd a files_before files_now spawner_before spawner_now out_before out_now err_before told end
  -- or memory ran out, and nothing is said of it
  pub log : SaysLog a.log log_now told err_now ⊎ ((end.outcome ≡ NoMemory) × (err_now ≡ told))
