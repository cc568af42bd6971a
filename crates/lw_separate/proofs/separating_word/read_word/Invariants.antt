use Rattle.std.proofs.Common.{◌<◌, ◌≤◌, ◌++◌, ℕ, List, length}
use Rattle.lw_separate.specs.bodies.Levels.{AreApartBy}
use Rattle.lw_separate.proofs.ShortestLemmas.{Finishes}
use Rattle.lw_separate.proofs.separating_word.read_word.Given as goal

abbrev pub invariant-loop-left : goal.invariant-loop-left
invariant-loop-left l = record {
  first : l.first < length l.m.rows;
  second : l.second < length l.m.rows;
  within : l.left ≤ length l.levels.below.items;
  apart : AreApartBy l.m.inputs l.m.rows l.left l.first l.second;
  way : (v : List ℕ) → Finishes l.m.inputs l.m.rows l.left l.first l.second v → Finishes l.m.inputs l.m.rows l.letters l.p l.q (l.word ++ v);
}

abbrev pub decreases-loop-left : goal.decreases-loop-left
decreases-loop-left l = l.left
