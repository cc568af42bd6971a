use Rattle.std.proofs.Common.{◌≡◌, ◌<◌, ℕ, [], length, get_or, None}
use Rattle.lw_words.specs.Word.{number_of}
use Rattle.lw_compare.proofs.dictionary.numbers.Given as goal

abbrev pub invariant-loop-place : goal.invariant-loop-place
invariant-loop-place l = record {
  all : length l.list.items ≡ l.place;
  each : (k : ℕ) → k < length l.list.items → number_of (get_or l.names k []) l.others ≡ get_or l.list.items k None;
}
