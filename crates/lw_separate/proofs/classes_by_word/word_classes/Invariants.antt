use Rattle.std.proofs.Common.{◌≡◌, ◌<◌, ℕ, [], length, map, get_or}
use Rattle.lw_separate.specs.WordClasses.{AreClassesOn}
use Rattle.lw_separate.proofs.classes_by_word.word_classes.Given as goal

abbrev pub invariant-loop-word : goal.invariant-loop-word
invariant-loop-word l = record {
  long : length l.classes.items ≡ l.word-index;
  each : (k : ℕ) → k < length (map (λ c. c.items) l.classes.items) → AreClassesOn l.m.rows (get_or l.words k []) (get_or (map (λ c. c.items) l.classes.items) k []);
}
