use Rattle.std.proofs.Common.{◌≡◌, map, take}
use Rattle.lw_desk.specs.bodies.Gathering.{IsGathered}
use Rattle.lw_desk.proofs.gathering.gather.Given as goal

abbrev pub invariant-loop-word : goal.invariant-loop-word
invariant-loop-word l = record {
  batch : map (λ p. p.0) l.unknown.batch.items ≡ take l.word-index l.batch;
  gathered : IsGathered l.cache.kept (take l.word-index l.batch) l.unknown.words.items l.unknown.places.items;
}
