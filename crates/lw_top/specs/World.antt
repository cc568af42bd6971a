-- What contracts see of all that a call can touch.
use Rattle.std.specs.Prelude.{◌≤◌}
use Rattle.lw_outside.specs.Files.{FilesState}
use Rattle.lw_outside.specs.Links.{SpawnerState}
use Rattle.lw_outside.specs.Streams.{SinkState, SourceState}
use Rattle.lw_outside.specs.declared.world.World.{World}
use Rattle.lw_log.specs.declared.log.LogState.{LogState}

-- files, what starts children, the input, the output, the error stream and the log
pub record WorldState : Type 0 where
  pub files : FilesState
  pub spawner : SpawnerState
  pub input : SourceState
  pub out : SinkState
  pub err : SinkState
  pub log : LogState

abbrev pub states : FilesState → SpawnerState → SourceState → SinkState → SinkState → LogState → WorldState
states files spawner input out err log = record { files = files; spawner = spawner; input = input; out = out; err = err; log = log }

-- what is seen of a world, by what is seen of each of its parts
abbrev pub seen : {F P I O E G : Type 0} → (F → FilesState) → (P → SpawnerState) → (I → SourceState) → (O → SinkState) → (E → SinkState) → (G → LogState) → World F P I O E G → WorldState
seen files spawner input out err log world = states (files world.files) (spawner world.spawner) (input world.input) (out world.out) (err world.err) (log world.log)

-- no count of faults falls, nor that of the input's ends
pub record CountsOn (before now : WorldState) : Type 0 where
  pub files : before.files.faults ≤ now.files.faults
  pub input : before.input.faults ≤ now.input.faults
  pub ends : before.input.ends ≤ now.input.ends
  pub out : before.out.faults ≤ now.out.faults
  pub err : before.err.faults ≤ now.err.faults
