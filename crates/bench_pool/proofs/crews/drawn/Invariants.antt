use Rattle.lw_words.specs.Word.{IsWord}
use Rattle.bench_pool.proofs.crews.drawn.Given as goal

abbrev pub invariant-loop : goal.invariant-loop
invariant-loop l = IsWord 4 l.word
