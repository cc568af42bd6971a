use Rattle.std.proofs.Common.{◌≡◌, ◌≤◌, ℕ, not, eqb, take}
use Rattle.std.specs.List.{count_by}
use Rattle.lw_wp.proofs.greedy_sets.other_count.Given as goal

abbrev pub invariant-loop-class : goal.invariant-loop-class
invariant-loop-class l = record {
  few : l.count ≤ l.class-index;
  counted : l.count ≡ count_by (λ (class : ℕ). not (eqb l.own class)) (take l.class-index l.classes);
}
