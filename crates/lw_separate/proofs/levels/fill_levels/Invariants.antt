use Rattle.std.proofs.Common.{ℕ, ◌<◌, ◌-◌, ◌*◌, [], length, map, get_or}
use Rattle.lw_separate.specs.bodies.Levels.{AreClassesOf, AreRefined}
use Rattle.lw_separate.proofs.LevelLemmas.{total}
use Rattle.lw_separate.proofs.levels.fill_levels.Given as goal

abbrev pub invariant-loop-alloc : goal.invariant-loop-alloc
invariant-loop-alloc l = record {
  filled : (k : ℕ) → k < length (map (λ r. r.items) l.below.items) → AreClassesOf l.m.inputs l.m.rows k (get_or (map (λ r. r.items) l.below.items) k []);
  now : AreClassesOf l.m.inputs l.m.rows (length l.below.items) l.names.items;
  finer : AreRefined l.m.inputs l.m.rows l.names.items l.finer.items;
}

abbrev pub decreases-loop-alloc : goal.decreases-loop-alloc
decreases-loop-alloc l = length l.m.rows * length l.m.rows - total l.names.items
