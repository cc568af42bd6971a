use Rattle.std.proofs.Common.{◌≡◌, length}
use Rattle.std.specs.List.{All}
use Rattle.lw_words.specs.Word.{IsWord}
use Rattle.bench_pool.proofs.crews.batch_of.Given as goal

abbrev pub invariant-loop : goal.invariant-loop
invariant-loop l = record {
  letters : All (IsWord 4) l.batch.items;
  count : length l.batch.items ≡ l.counter;
}
