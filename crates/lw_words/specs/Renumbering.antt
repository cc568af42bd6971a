-- Outputs under other numbers.
use Rattle.std.specs.Prelude.{ℕ, List, map, slice_index_or}
use Rattle.lw_words.specs.declared.kept.KeptAnswer.{KeptAnswer}

-- each number replaced by the one that a list has at its place; past the end, by 0
abbrev pub renumbered : List ℕ → List ℕ → List ℕ
renumbered to numbers = map (λ y. slice_index_or to y 0) numbers

-- recorded answers with their outputs renumbered
abbrev pub renumbered_answer : List ℕ → KeptAnswer → KeptAnswer
renumbered_answer to k = record { instance = k.instance; run = k.run; word = k.word; outs = renumbered to k.outs }

abbrev pub renumbered_answers : List ℕ → List KeptAnswer → List KeptAnswer
renumbered_answers to kept = map (renumbered_answer to) kept
