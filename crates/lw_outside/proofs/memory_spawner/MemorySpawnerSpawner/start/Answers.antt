use Rattle.std.proofs.Common.{◌≡◌, Option, Some, rules}
use Rattle.std.proofs.lemmas.List.{map-append}
use Rattle.lw_outside.specs.Memory.{MemoryLinkState, next_link}
use Rattle.lw_outside.proofs.RetireLemmas.{number_of_next}
use Rattle.lw_outside.proofs.memory_spawner.MemorySpawnerSpawner.start.Goals as goal

pub returns-in-Some-clause-every : goal.returns-in-Some-clause-every
returns-in-Some-clause-every c =
    let e : ◌≡◌ {A = Option MemoryLinkState} (Some c.in-Some.link) (next_link c.args.self.now) = search rules in
    record {
      number = number_of_next c.args.self.now c.in-Some.link e;
      unused = search rules;
      one_more = search rules;
      none = search rules;
      ok = search (rules, map-append);
      failed = search rules;
      failed_start = search (rules, map-append);
      memory = search rules;
      quiet = search rules;
      counts = search rules;
      retired = search rules;
      earlier = search rules;
    }
