use Rattle.std.proofs.Common.{◌<◌, length, rules, ap, arith, vec_capacity}
use Rattle.lw_outside.specs.Memory.{MemorySpawnerState}
use Rattle.lw_outside.proofs.RetireLemmas.{has_room, keeps_retired}
use Rattle.lw_outside.proofs.memory_spawner.MemorySpawnerSpawner.retire.Goals as goal

pub push_reserved-requires : goal.push_reserved-requires
push_reserved-requires c =
    let room : length c.self.inside.transcripts.items < vec_capacity c.self.inside.transcripts = has_room c.self.inside.started (vec_capacity c.self.inside.transcripts) c.self.inside.retired.items c.self.inside.transcripts.items c.args.self.now c.args.link c.self.invariant (ap (λ (s : MemorySpawnerState). s.started) c.self.view_is) (ap (λ (s : MemorySpawnerState). s.retired) c.self.view_is) (c.requires.started, c.requires.once) in
    search (rules, room)

pub invariant_of-self : goal.invariant_of-self
invariant_of-self c =
    keeps_retired c.self.inside.started (vec_capacity c.self.inside.transcripts) (vec_capacity c.push_reserved.new.self) c.self.inside.retired.items c.and-self-inside.result.items c.self.inside.transcripts.items c.push_reserved.new.self.items c.into_transcript.result c.args.self.now c.args.link c.self.invariant (ap (λ (s : MemorySpawnerState). s.started) c.self.view_is) (ap (λ (s : MemorySpawnerState). s.retired) c.self.view_is) (c.requires.started, c.requires.once) c.number-number.ensures.received (omega arith) c.and-self-inside.ensures c.push_reserved.ensures.items c.into_transcript.ensures
