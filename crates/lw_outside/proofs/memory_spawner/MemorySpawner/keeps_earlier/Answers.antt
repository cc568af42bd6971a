use Rattle.std.proofs.Common.{◌<◌, map, subst}
use Rattle.std.specs.List.{All}
use Rattle.lw_outside.specs.Memory.{MemorySpawnerState, told_link}
use Rattle.lw_outside.proofs.RetireLemmas.{earlier_records}
use Rattle.lw_outside.proofs.memory_spawner.MemorySpawner.keeps_earlier.Goals as goal

pub returns : goal.returns
returns c =
    subst (λ (s : MemorySpawnerState). All (λ r. r.number < s.started) (map told_link s.retired)) c.self.view_is
    (earlier_records c.self.inside.started (map (λ r. r.0) c.self.inside.retired.items) c.self.invariant.below)
