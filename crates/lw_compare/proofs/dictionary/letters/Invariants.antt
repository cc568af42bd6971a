use Rattle.std.proofs.Common.{◌≡◌, ◌<◌, ℕ, [], length, get_or}
use Rattle.lw_words.specs.Word.{number_in}
use Rattle.lw_compare.proofs.dictionary.letters.Given as goal

abbrev pub invariant-loop-place : goal.invariant-loop-place
invariant-loop-place l = record {
  all : length l.list.items ≡ l.place;
  each : (k : ℕ) → k < length l.list.items → number_in l.others (get_or l.names k []) ≡ get_or l.list.items k 0;
}
