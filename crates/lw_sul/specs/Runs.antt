-- The runs of a system.
use Rattle.std.specs.Prelude.{ℕ, List, [], ◌∷◌, ◌++◌, map}
use Rattle.lw_words.specs.Word.{Answer}
use Rattle.lw_sul.specs.declared.runs.Run.{Run}

-- a run with one step more
abbrev pub stepped : Run → ℕ → ℕ → Run
stepped r x y = record { word = r.word ++ x ∷ []; outs = r.outs ++ y ∷ [] }

-- the runs after a reset, which begins an empty one
abbrev pub after_reset : List Run → List Run
after_reset rs = rs ++ record { word = []; outs = [] } ∷ []

-- the runs after a step, which goes to the last one
abbrev pub after_step : ℕ → ℕ → List Run → List Run
after_step x y [] = []
after_step x y (r ∷ []) = stepped r x y ∷ []
after_step x y (r ∷ s ∷ rs) = r ∷ after_step x y (s ∷ rs)

-- what was answered in a run, and in each run of a journal
abbrev pub run_answer : Run → Answer
run_answer r = record { word = r.word; outs = r.outs }

abbrev pub journal_answers : List Run → List Answer
journal_answers runs = map run_answer runs
