use Rattle.std.proofs.Common.{ℕ, ◌<◌}
use Rattle.lw_words.specs.Word.{answer_at, answers_of, IsPrefix}
use Rattle.lw_cache.specs.Clash.{IsClear}
use Rattle.lw_cache.proofs.plain.known.Given as goal

abbrev pub invariant-loop-number : goal.invariant-loop-number
invariant-loop-number l =
    let ks = answers_of l.fn.kept.answers in
    (j : ℕ) → j < l.number → IsClear ks j → ¬ IsPrefix l.fn.word (answer_at ks j).word
