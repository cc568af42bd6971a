-- Prior answers, under the number 16 and the runs of their places.
use Rattle.std.specs.Prelude.{ℕ, ◌+◌, List, [], ◌∷◌}
use Rattle.lw_words.specs.declared.kept.KeptAnswer.{KeptAnswer}

abbrev pub placed_answer : ℕ → KeptAnswer → KeptAnswer
placed_answer n k = record { instance = 16; run = n; word = k.word; outs = k.outs }

-- in the runs n, n + 1 and so on
abbrev pub placed_from : ℕ → List KeptAnswer → List KeptAnswer
placed_from n [] = []
placed_from n (k ∷ ks) = placed_answer n k ∷ placed_from (n + 1) ks
