-- The runs of the scripted system of the tests: a log of its calls that were answered Ok.
use Rattle.std.specs.Prelude.{ℕ, List, [], ◌∷◌, Option, Some, None}
use Rattle.lw_sul.specs.Runs.{after_reset, after_step}
use Rattle.lw_sul.specs.declared.runs.Run.{Run}

-- the runs after a call: a reset, or a step with its letter and output
abbrev pub after_call : Option (ℕ × ℕ) → List Run → List Run
after_call None rs = after_reset rs
after_call (Some s) rs = after_step s.0 s.1 rs

-- the runs after more calls
abbrev pub runs_after : List Run → List (Option (ℕ × ℕ)) → List Run
runs_after rs [] = rs
runs_after rs (call ∷ calls) = runs_after (after_call call rs) calls

abbrev pub runs_of : List (Option (ℕ × ℕ)) → List Run
runs_of calls = runs_after [] calls
